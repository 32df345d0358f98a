-- What each step of a way writes, tells and leaves.
use Rattle.std.proofs.Common.{ltb-false, ltb-true, ◌≡◌, ◌≢◌, inr, ⊎_elim, ℕ, ◌≤◌, ◌<◌, ◌+◌, arith, Bool, true, false, refl, sym, ◌∙◌, ap, subst, List, [], ◌∷◌, ◌++◌, length, take, drop, get_or, append_assoc, None, if◌then◌else◌}
use Rattle.std.specs.Prelude.{nat_lt}
use Rattle.std.proofs.lemmas.List.{drop_more, take-append-drop, take-take, length-take-le}
use Rattle.std.specs.Ordering.{nat_cmp}
use Rattle.std.specs.Cmp.Lexicographic.{slice_cmp}
use Rattle.std.specs.declared.cmp.Ordering.TheVariants.{Less}
use Rattle.ost_types.specs.declared.meta.Meta.{Meta}
use Rattle.ost_types.specs.Path.{Name, Path, under}
use Rattle.fs_trait.specs.declared.types.Value.TheVariants.{Absent, Folder}
use Rattle.fs_trait.specs.View.{View, named, folder_synced}
use Rattle.fs_trait.specs.Image.{is_folder, IsTree}
use Rattle.fs_trait.specs.Effect.{no_new, no_folder}
use Rattle.fs_trait.specs.Seen.{Seen, Vacant, seen, shows, MayShow, MayBe, IsDirectory}
use Rattle.fs_trait.specs.Change.{Writes, Nothing, At, LeadsTo}
use Rattle.fs_trait.proofs.Refusals.{no_folder-there}
use Rattle.fs_trait.proofs.Kept.{firm_kept, weaker}
use Rattle.fs_trait.proofs.Effects.{may_now, named-writes, folder_synced-writes, shows_named, folder_synced-firm}
use Rattle.fs_trait.proofs.Claims.{folder_shows, leads_under}
use Rattle.fs_trait.proofs.Facts.{no_new-free}
use Rattle.repo_layout.specs.RefName.{IsRefName, parts_of}
use Rattle.repo_layout.specs.Paths.{heads, ref_path}
use Rattle.repo_layout.specs.Refs.{is_leaf}
use Rattle.ref_room.specs.declared.way.Leg.{Leg}
use Rattle.ref_room.specs.declared.way.Leg.TheVariants.{Make, Sync, Over}
use Rattle.ref_room.specs.Clash.{way_to, IsAbove, IsClash, IsLeastClash, IsFreeAbove}
use Rattle.ref_room.specs.Way.{Walked, Needs, WritesOf, writes_in, here_in, leg_of, leg_at, folder, next_folder, next_in, is_over, folder_meta}
use Rattle.ref_room.proofs.Names.{way_to-more, way_to-all, ways-below, above-way, way-above, ref_path-one}
use Rattle.ref_room.proofs.Disks.{leaf_no_folder, leaf_there, directory_no_leaf, may_directory, below_absent, self_not_less}
use Rattle.fs_trait.proofs.Answering.{Step}

-- the folder that is reached next is one further
pub next_name : (t : Walked) → t.reached + 1 < length (parts_of t.name) → (x : Name) × (next_folder t ≡ under (folder t) x)
next_name t less = (get_or (ref_path t.name) (4 + t.reached) [], sym (way_to-more t.reached t.name [] (omega (arith, less))))

-- a new path on the way is that behind it, or the file's
pub beyond_way : (k m : ℕ) (name : List ℕ) → k < m → m ≤ length (parts_of name) → (x : Name) × (rest : Path) × (way_to m name ≡ way_to k name ++ x ∷ rest)
unfolding way_to
beyond_way k m name less le =
    let front = take m (parts_of name) in
    let n : length front ≡ m = omega (arith, le, length-take-le m (parts_of name) le) in (
      get_or front k [],
      drop (k + 1) front,
      ap (λ p. heads ++ p) (sym (take-append-drop k front) ∙ ap (λ p. take k front ++ p) (drop_more front k [] (omega (arith, n, less))) ∙ ap (λ p. p ++ get_or front k [] ∷ drop (k + 1) front) (take-take k m (parts_of name) (omega (arith, less))))
          ∙ sym (append_assoc heads (take k (parts_of name)) (get_or front k [] ∷ drop (k + 1) front)),
    )

module _ (t : Walked) (v : View) (tree : IsTree v.now) (needs : Needs t v) where
  place_in : (leg : Leg) → t.leg ≡ leg → leg_of leg t.reached t.name
  place_in leg is = subst (λ l. leg_of l t.reached t.name) is needs.place

  here_now : (leg : Leg) → t.leg ≡ leg → (p : Path) → here_in leg t p (shows v.now p)
  here_now leg is p = subst (λ l. here_in l t p (shows v.now p)) is (needs.meets.here p)

  -- what was reached is a folder, and so is all above it
  reached_folder : (k : ℕ) → k ≤ t.reached → IsDirectory (shows v.now (way_to k t.name))
  reached_folder k le = needs.meets.firm (way_to k t.name) _ (may_now v (way_to k t.name)) (ways-below k t.reached t.name le)

  folder_now : is_folder (v.now.at (folder t)) ≡ true
  folder_now = folder_shows v.now (folder t) (reached_folder t.reached (omega arith))

  written : (leg : Leg) (w : View) → t.leg ≡ leg → Writes (writes_in leg t v) v w → Writes (WritesOf t v) v w
  written leg w is writes = subst (λ l. Writes (writes_in l t v) v w) (sym is) writes

  -- 1. a folder stands there
  pub found : t.leg ≡ Make → IsDirectory (shows v.now (next_folder t)) → Needs (next_in Make t) v
  found is there = record {
    named = needs.named;
    place = place_in Make is;
    meets = record { firm = needs.meets.firm; here = λ p e. subst (λ q. IsDirectory (shows v.now q)) (sym e) there };
  }

  -- 2. nothing stands there
  made_here : t.leg ≡ Make → v.now.at (next_folder t) ≡ Absent → Step (WritesOf t v) (Needs (next_in Make t)) v (no_new (next_folder t) v.now) (named (next_folder t) (Folder folder_meta) v)
  made_here is absent =
      let at = next_folder t in
      let w = named at (Folder folder_meta) v in
      let x = next_name t (place_in Make is) in
      let vacant : shows v.now at ≡ Vacant = ap (seen v.now) absent in
      let writes : Writes (writes_in Make t v) v w = weaker (At at (MayShow v (Folder folder_meta))) (writes_in Make t v) v w (λ p s a. (a.0, a.1, vacant)) (named-writes v at (Folder folder_meta)) in
      record {
        free = subst (λ q. v.now.at q ≡ Absent → no_new q v.now ≡ None) (sym x.1) (no_new-free v.now (folder t) x.0 tree folder_now) absent;
        writes = written Make w is writes;
        after = record {
          named = needs.named;
          place = place_in Make is;
          meets = record {
            firm = firm_kept (writes_in Make t v) (LeadsTo (folder t)) v w writes (λ p s a below. subst IsDirectory (sym a.1) tt) needs.meets.firm;
            here = λ p e. subst (λ q. IsDirectory (shows w.now q)) (sym e) (subst IsDirectory (sym (shows_named v at (Folder folder_meta))) tt);
          };
        };
      }

  pub made : (at : Path) (m : Meta) → at ≡ next_folder t → m ≡ folder_meta → t.leg ≡ Make → v.now.at at ≡ Absent → Step (WritesOf t v) (Needs (next_in Make t)) v (no_new at v.now) (named at (Folder m) v)
  made at m is_at is_meta is absent =
      subst (λ q. Step (WritesOf t v) (Needs (next_in Make t)) v (no_new q v.now) (named q (Folder m) v)) (sym is_at)
      (subst (λ k. Step (WritesOf t v) (Needs (next_in Make t)) v (no_new (next_folder t) v.now) (named (next_folder t) (Folder k) v)) (sym is_meta)
      (made_here is (subst (λ q. v.now.at q ≡ Absent) is_at absent)))

  -- 3. a ref stands there, and then no other clashes
  module _ (is : t.leg ≡ Make) (other : List ℕ) (named_ : IsRefName other) (at : ref_path other ≡ next_folder t) (leaf : is_leaf (v.now.at (next_folder t)) ≡ true) where
    alone_above : (third : List ℕ) (k : ℕ) → k < length (parts_of t.name) → ref_path third ≡ way_to k t.name → is_leaf (v.now.at (way_to k t.name)) ≡ true → third ≡ other
    alone_above third k less e there = by (nat_lt k (t.reached + 1)) refl (nat_lt (t.reached + 1) k) refl
      where
        by : (b : Bool) → nat_lt k (t.reached + 1) ≡ b → (c : Bool) → nat_lt (t.reached + 1) k ≡ c → third ≡ other
        by true below c over =
            let le = ltb-true k (t.reached + 1) below in
            absurd (directory_no_leaf v.now (v.now.at (way_to k t.name)) (reached_folder k (omega (arith, le))) there)
        by false below true over =
            let less_ = ltb-true (t.reached + 1) k over in
            let b = beyond_way (t.reached + 1) k t.name less_ (omega (arith, less)) in
            absurd (leaf_there (v.now.at (way_to k t.name)) there (subst (λ q. v.now.at q ≡ Absent) (sym b.2) (below_absent v.now tree (next_folder t) b.0 b.1 (leaf_no_folder (v.now.at (next_folder t)) leaf))))
        by false below false over =
            let a = ltb-false k (t.reached + 1) below in
            let b = ltb-false (t.reached + 1) k over in
            let same : k ≡ t.reached + 1 = omega (arith, a, b) in
            ref_path-one third other (e ∙ ap (λ n. way_to n t.name) same ∙ sym at)

    alone_below : (third : List ℕ) → IsAbove t.name third → is_leaf (v.now.at (ref_path third)) ≡ true → ⊥
    alone_below third above there =
        let w = above-way t.name third above in
        let less : t.reached + 1 < length (parts_of t.name) = place_in Make is in
        let b = beyond_way (t.reached + 1) (length (parts_of t.name)) t.name less (omega arith) in
        let c = beyond_way w.0 (length (parts_of third)) third w.2 (omega arith) in
        let path : ref_path third ≡ next_folder t ++ b.0 ∷ (b.1 ++ c.0 ∷ c.1) =
        sym (way_to-all third) ∙ c.2
        ∙ ap (λ p. p ++ c.0 ∷ c.1) (sym w.3 ∙ sym (way_to-all t.name) ∙ b.2)
        ∙ append_assoc (next_folder t) (b.0 ∷ b.1) (c.0 ∷ c.1) in
        leaf_there (v.now.at (ref_path third)) there (subst (λ q. v.now.at q ≡ Absent) (sym path) (below_absent v.now tree (next_folder t) b.0 (b.1 ++ c.0 ∷ c.1) (leaf_no_folder (v.now.at (next_folder t)) leaf)))

    only : (third : List ℕ) → IsClash v.now t.name third → third ≡ other
    only third clash = ⊎_elim
        (λ above. absurd (alone_below third above clash.leaf))
        (λ below. let w = above-way third t.name below in alone_above third w.0 w.2 w.3 (subst (λ q. is_leaf (v.now.at q) ≡ true) w.3 clash.leaf))
        clash.clashes

    pub least : IsLeastClash v.now t.name other
    least = record {
      clash = record {
        named = named_;
        leaf = subst (λ q. is_leaf (v.now.at q) ≡ true) (sym at) leaf;
        clashes = inr (way-above (t.reached + 1) other t.name (place_in Make is) at);
      };
      least = λ third clash. subst (λ n. slice_cmp nat_cmp n other ≢ Less) (sym (only third clash)) (self_not_less other);
    }

  -- 4. the sync
  arrived : (w : View) → t.reached + 1 < length (parts_of t.name) → ((p : Path) (s : Seen) → MayBe w p s → LeadsTo (next_folder t) p s) → (b : Bool) → nat_lt (t.reached + 1 + 1) (length (parts_of t.name)) ≡ b
      → Needs (record t { reached = t.reached + 1; leg = if b then Make else Over }) w
  arrived w less firm true e = record { named = needs.named; place = ltb-true _ _ e; meets = record { firm = firm; here = λ p. tt } }
  arrived w less firm false e =
      let last = ltb-false (t.reached + 1 + 1) (length (parts_of t.name)) e in
      record { named = needs.named; place = omega (arith, less, last); meets = record { firm = firm; here = λ p. tt } }

  synced_here : t.leg ≡ Sync → Step (WritesOf t v) (Needs (next_in Sync t)) v (no_folder (folder t) v.now) (folder_synced (folder t) v)
  synced_here is =
      let w = folder_synced (folder t) v in
      let less : t.reached + 1 < length (parts_of t.name) = place_in Sync is in
      let x = next_name t less in
      let there : IsDirectory (shows v.now (under (folder t) x.0)) = subst (λ q. IsDirectory (shows v.now q)) x.1 (here_now Sync is (next_folder t) refl) in
      let leads = firm_kept Nothing (LeadsTo (folder t)) v w (folder_synced-writes v (folder t)) (λ p s none. absurd none) needs.meets.firm in
      let on = leads_under w (folder t) x.0 leads (λ s may. may_directory v (v.now.at (under (folder t) x.0)) s there (folder_synced-firm v (folder t) x.0 s may)) in
      record {
        free = no_folder-there v.now tree (folder t) folder_now;
        writes = written Sync w is (folder_synced-writes v (folder t));
        after = arrived w less (subst (λ q. (p : Path) (s : Seen) → MayBe w p s → LeadsTo q p s) (sym x.1) on) (nat_lt (t.reached + 1 + 1) (length (parts_of t.name))) refl;
      }

  pub synced : (at : Path) → at ≡ folder t → t.leg ≡ Sync → Step (WritesOf t v) (Needs (next_in Sync t)) v (no_folder at v.now) (folder_synced at v)
  synced at is_at is = subst (λ q. Step (WritesOf t v) (Needs (next_in Sync t)) v (no_folder q v.now) (folder_synced q v)) (sym is_at) (synced_here is)

  -- after the last sync no ref stands above
  last : (b : Bool) → nat_lt (t.reached + 1 + 1) (length (parts_of t.name)) ≡ b → is_over (if b then Make else Over) ≡ true → length (parts_of t.name) ≤ t.reached + 2
  last true e over = let n : false ≡ true = over in cc
  last false e over = let l = ltb-false (t.reached + 1 + 1) (length (parts_of t.name)) e in omega (arith, l)

  pub synced_free : t.leg ≡ Sync → is_over (leg_at (t.reached + 1) t.name) ≡ true → IsFreeAbove v.now t.name
  synced_free is over other above leaf = directory_no_leaf v.now (v.now.at (way_to w.0 t.name)) (there (nat_lt w.0 (t.reached + 1)) refl) (subst (λ q. is_leaf (v.now.at q) ≡ true) w.3 leaf)
    where
      w : (k : ℕ) × (0 < k) × (k < length (parts_of t.name)) × (ref_path other ≡ way_to k t.name)
      w = above-way other t.name above

      there : (b : Bool) → nat_lt w.0 (t.reached + 1) ≡ b → IsDirectory (shows v.now (way_to w.0 t.name))
      there true e = let l = ltb-true w.0 (t.reached + 1) e in reached_folder w.0 (omega (arith, l))
      there false e =
          let l = ltb-false w.0 (t.reached + 1) e in
          let less = w.2 in
          let all = last (nat_lt (t.reached + 1 + 1) (length (parts_of t.name))) refl over in
          let same : t.reached + 1 ≡ w.0 = omega (arith, l, less, all) in
          here_now Sync is (way_to w.0 t.name) (ap (λ n. way_to n t.name) (sym same))

-- once the way is over, no ref stands above
pub over_free : (t : Walked) (v : View) → Needs t v → t.reached + 1 ≡ length (parts_of t.name) → IsFreeAbove v.now t.name
over_free t v needs all other above leaf =
    let w = above-way other t.name above in
    let less = w.2 in
    let there = needs.meets.firm (way_to w.0 t.name) _ (may_now v (way_to w.0 t.name)) (ways-below w.0 t.reached t.name (omega (arith, all, less))) in
    directory_no_leaf v.now (v.now.at (way_to w.0 t.name)) there (subst (λ q. is_leaf (v.now.at q) ≡ true) w.3 leaf)
