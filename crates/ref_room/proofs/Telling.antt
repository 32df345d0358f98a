-- What a clearing tells at its end.
use Rattle.std.proofs.Common.{◌≡◌, ◌≢◌, inl, inr, ⊎_elim, ℕ, arith, true, false, refl, sym, ◌∙◌, ap, subst, List, [], ◌∷◌, ◌++◌, length, append_assoc, Option, Some, None}
use Rattle.std.specs.Prelude.{Contains}
use Rattle.std.specs.Ordering.{nat_cmp}
use Rattle.std.specs.Cmp.Lexicographic.{slice_cmp}
use Rattle.std.specs.declared.cmp.Ordering.TheVariants.{Less}
use Rattle.ost_types.specs.Path.{Name, Path, IsPath, under}
use Rattle.fs_trait.specs.declared.types.Value.TheVariants.{Absent}
use Rattle.fs_trait.specs.View.{View}
use Rattle.fs_trait.specs.Image.{is_folder, IsTree}
use Rattle.fs_trait.specs.Seen.{Seen, Vacant, shows, IsDirectory}
use Rattle.fs_trait.proofs.Facts.{vacant_absent}
use Rattle.repo_layout.specs.RefName.{IsRefName, parts_of}
use Rattle.repo_layout.specs.Paths.{heads, ref_path}
use Rattle.repo_layout.specs.Refs.{is_leaf}
use Rattle.repo_layout.proofs.KnownPaths.{ref-known}
use Rattle.ref_room.specs.Clash.{IsAbove, IsLeastClash}
use Rattle.ref_room.specs.Clearing.{Cleared, Looks, Says, Removes, Ends, act, act_of, IsCounted, IsKnown, IsLeaf, Needs}
use Rattle.ref_room.proofs.Names.{IsPath-front, above-way, way_to-all, ref_path-one}
use Rattle.ref_room.proofs.Disks.{leaf_no_folder, leaf_there, directory_no_leaf, below_absent}
use Rattle.ref_room.proofs.WaySteps.{beyond_way}
use Rattle.ref_room.proofs.ClearingSteps.{seen_leaf}
use Rattle.ref_room.proofs.Removing.{not_in}

ref_is_path : (name : List ℕ) → IsRefName name → IsPath (ref_path name)
ref_is_path name named = let k = ref-known name named in record { names = k.names; few = omega (arith, k.few); short = omega (arith, k.short) }

below_path : (name other : List ℕ) → (above : IsAbove name other) → ref_path other ≡ ref_path name ++ above.0 ∷ above.1
unfolding ref_path
below_path name other above = ap (λ q. heads ++ q) above.2 ∙ sym (append_assoc heads (parts_of name) (above.0 ∷ above.1))

record Saying (pending : List Path) (least : Option (List ℕ)) (other : List ℕ) : Type 0 where
  pub no_pending : pending ≡ []
  pub is : least ≡ Some other

saying_by : (pending folders : List Path) (least : Option (List ℕ)) (other : List ℕ) → act_of pending folders least ≡ Says other → Saying pending least other
saying_by (p ∷ pending) folders least other e = let n : Looks ≡ Says other = e in cc
saying_by [] folders (Some x) other e = let n : x ≡ other = cc in record { no_pending = refl; is = ap Some n }
saying_by [] (f ∷ folders) None other e = let n : Removes ≡ Says other = e in cc
saying_by [] [] None other e = let n : Ends ≡ Says other = e in cc

record Ending (pending folders : List Path) : Type 0 where
  pub no_pending : pending ≡ []
  pub no_folders : folders ≡ []

ending_by : (pending folders : List Path) (least : Option (List ℕ)) → act_of pending folders least ≡ Ends → Ending pending folders
ending_by (p ∷ pending) folders least e = let n : Looks ≡ Ends = e in cc
ending_by [] folders (Some x) e = let n : Says x ≡ Ends = e in cc
ending_by [] (f ∷ folders) None e = let n : Removes ≡ Ends = e in cc
ending_by [] [] None e = record { no_pending = refl; no_folders = refl }

counted_leaf : (least : Option (List ℕ)) (c : Path) (s : Seen) → IsCounted least c s → IsLeaf s
counted_leaf None c s a = absurd a
counted_leaf (Some least) c s a = a.0

-- at the end nothing stands at the path
pub ends_vacant : (t : Cleared) (v : View) → Needs t v → act t ≡ Ends → shows v.now (ref_path t.name) ≡ Vacant
ends_vacant t v needs ends =
    let state = ending_by t.pending t.folders t.least ends in
    ⊎_elim (λ a. not_in (ref_path t.name) t.pending state.no_pending a) (λ more. ⊎_elim (λ b. not_in (ref_path t.name) t.folders state.no_folders b) (λ e. e) more) ((needs.here (ref_path t.name)).own refl).0

module _ (t : Cleared) (v : View) (tree : IsTree v.now) (needs : Needs t v) (none : t.pending ≡ []) where
  -- below what is no folder no leaf stands
  no_leaf_below : (c : Path) (y : Name) (rest : Path) → is_folder (v.now.at c) ≡ false → is_leaf (v.now.at (c ++ y ∷ rest)) ≡ true → ⊥
  no_leaf_below c y rest no_ leaf = leaf_there (v.now.at (c ++ y ∷ rest)) leaf (below_absent v.now tree c y rest no_)

  no_folder_vacant : (c : Path) → shows v.now c ≡ Vacant → is_folder (v.now.at c) ≡ false
  no_folder_vacant c e = ap is_folder (vacant_absent v.now c e)

  no_folder_leaf : (c : Path) → IsLeaf (shows v.now c) → is_folder (v.now.at c) ≡ false
  no_folder_leaf c leaf = leaf_no_folder (v.now.at c) (seen_leaf v.now (v.now.at c) leaf)

  module _ (third : List ℕ) (named : IsRefName third) (leaf : is_leaf (v.now.at (ref_path third)) ≡ true) where
    at_end : (c : Path) → c ≡ ref_path third → IsKnown t c (shows v.now c) → IsCounted t.least (ref_path third) (shows v.now (ref_path third))
    at_end c e (inl a) = not_in c t.pending none a
    at_end c e (inr (inl a)) = absurd (directory_no_leaf v.now (v.now.at (ref_path third)) (subst (λ q. IsDirectory (shows v.now q)) e ((needs.here c).folder a)) leaf)
    at_end c e (inr (inr (inl a))) = absurd (leaf_there (v.now.at (ref_path third)) leaf (vacant_absent v.now (ref_path third) (ap (shows v.now) (sym e) ∙ a)))
    at_end c e (inr (inr (inr (inl a)))) = subst (λ q. IsCounted t.least q (shows v.now q)) e a
    at_end c e (inr (inr (inr (inr (inl a))))) = absurd (a.1 third named (sym e))
    at_end c e (inr (inr (inr (inr (inr long))))) = absurd (long (subst IsPath (sym e) (ref_is_path third named)))

    on_way : (c : Path) (y : Name) (rest : Path) → c ++ y ∷ rest ≡ ref_path third → (Contains t.folders c → IsCounted t.least (ref_path third) (shows v.now (ref_path third))) → IsKnown t c (shows v.now c) → IsCounted t.least (ref_path third) (shows v.now (ref_path third))
    on_way c y rest e further (inl a) = not_in c t.pending none a
    on_way c y rest e further (inr (inl a)) = further a
    on_way c y rest e further (inr (inr (inl a))) = absurd (no_leaf_below c y rest (no_folder_vacant c a) (subst (λ q. is_leaf (v.now.at q) ≡ true) (sym e) leaf))
    on_way c y rest e further (inr (inr (inr (inl a)))) = absurd (no_leaf_below c y rest (no_folder_leaf c (counted_leaf t.least c (shows v.now c) a)) (subst (λ q. is_leaf (v.now.at q) ≡ true) (sym e) leaf))
    on_way c y rest e further (inr (inr (inr (inr (inl a))))) = absurd (no_leaf_below c y rest (no_folder_leaf c a.0) (subst (λ q. is_leaf (v.now.at q) ≡ true) (sym e) leaf))
    on_way c y rest e further (inr (inr (inr (inr (inr long))))) = absurd (long (IsPath-front c (y ∷ rest) (subst IsPath (sym e) (ref_is_path third named))))

    walk : (f : Path) (x : Name) (rest : Path) → Contains t.folders f → f ++ x ∷ rest ≡ ref_path third → IsCounted t.least (ref_path third) (shows v.now (ref_path third))
    walk f x [] has e = at_end (under f x) e ((needs.here (under f x)).known f x refl has)
    walk f x (y ∷ rest) has e =
        let on : under f x ++ y ∷ rest ≡ ref_path third = append_assoc f (x ∷ []) (y ∷ rest) ∙ e in
        on_way (under f x) y rest on (λ more. walk (under f x) y rest more on) ((needs.here (under f x)).known f x refl has)

    pub counts : IsAbove t.name third → IsCounted t.least (ref_path third) (shows v.now (ref_path third))
    counts above = ⊎_elim
        (λ a. not_in (ref_path t.name) t.pending none a)
        (λ more. ⊎_elim
        (λ has. walk (ref_path t.name) above.0 above.1 has (sym (below_path t.name third above)))
        (λ vacant. absurd (no_leaf_below (ref_path t.name) above.0 above.1 (no_folder_vacant (ref_path t.name) vacant) (subst (λ q. is_leaf (v.now.at q) ≡ true) (below_path t.name third above) leaf)))
        more)
        ((needs.here (ref_path t.name)).own refl).0

no_less : (least : Option (List ℕ)) (other third : List ℕ) (s : Seen) → least ≡ Some other → IsCounted least (ref_path third) s → slice_cmp nat_cmp third other ≢ Less
no_less None other third s is c = absurd c
no_less (Some least) other third s is c =
    let same : c.1.0 ≡ third = ref_path-one c.1.0 third c.1.1 in
    let l : least ≡ other = cc in
    subst (λ n. slice_cmp nat_cmp third n ≢ Less) l (subst (λ n. slice_cmp nat_cmp n least ≢ Less) same c.1.2)

pub says_least : (t : Cleared) (v : View) → IsTree v.now → Needs t v → (other : List ℕ) → act t ≡ Says other → IsLeastClash v.now t.name other
says_least t v tree needs other says = record {
  clash = record { named = least.0; leaf = leaf; clashes = inl least.1 };
  least = λ third clash. ⊎_elim
      (λ above. no_less t.least other third (shows v.now (ref_path third)) state.is (counts t v tree needs state.no_pending third clash.named clash.leaf above))
      (λ below. absurd (above_clash third below clash.leaf))
      clash.clashes;
}
  where
    state : Saying t.pending t.least other
    state = saying_by t.pending t.folders t.least other says

    least : IsRefName other × IsAbove t.name other
    least = needs.least other state.is

    leaf : is_leaf (v.now.at (ref_path other)) ≡ true
    leaf = seen_leaf v.now (v.now.at (ref_path other)) ((needs.here (ref_path other)).least other state.is refl)

    above_clash : (third : List ℕ) → IsAbove third t.name → is_leaf (v.now.at (ref_path third)) ≡ true → ⊥
    above_clash third above there =
        let w = above-way third t.name above in
        let b = beyond_way w.0 (length (parts_of t.name)) t.name w.2 (omega arith) in
        let x = least.1.0 in
        let rest = least.1.1 in
        let path : ref_path other ≡ ref_path third ++ b.0 ∷ (b.1 ++ x ∷ rest) =
        below_path t.name other least.1 ∙ ap (λ q. q ++ x ∷ rest) (sym (way_to-all t.name) ∙ b.2 ∙ ap (λ q. q ++ b.0 ∷ b.1) (sym w.3)) ∙ append_assoc (ref_path third) (b.0 ∷ b.1) (x ∷ rest) in
        leaf_there (v.now.at (ref_path other)) leaf (subst (λ q. v.now.at q ≡ Absent) (sym path) (below_absent v.now tree (ref_path third) b.0 (b.1 ++ x ∷ rest) (leaf_no_folder (v.now.at (ref_path third)) there)))

says_by : (pending folders : List Path) (least : Option (List ℕ)) (other : List ℕ) → length pending ≡ 0 → least ≡ Some other → act_of pending folders least ≡ Says other
says_by (p ∷ pending) folders least other none is = absurd (omega (arith, none))
says_by [] folders (Some x) other none is = let n : x ≡ other = cc in ap Says n
says_by [] folders None other none is = let n : None ≡ Some other = is in cc

pub says_now : (t : Cleared) (other : List ℕ) → length t.pending ≡ 0 → t.least ≡ Some other → act t ≡ Says other
says_now t other none is = says_by t.pending t.folders t.least other none is
