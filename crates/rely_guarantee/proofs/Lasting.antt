-- What stays of the objects of the store: in a later view, on a disk that a crash left since, and over many acts.
use Rattle.std.proofs.Common.{◌≡◌, ◌⊎◌, inl, inr, ⊎_elim, ◌≤◌, ℕ, true, refl, sym, ◌∙◌, ap, subst, arith, List, [], ◌++◌, append-nil, drop, take, take-append-drop, Contains, Option, Some, None}
use Rattle.std.proofs.lemmas.List.Elements.{Contains-append_left, Contains-append_right}
use Rattle.ost_types.specs.declared.limits.Limits.{Limits}
use Rattle.ost_types.specs.declared.object.Kind.TheVariants.{Commit}
use Rattle.ost_types.specs.declared.object.ObjName.{ObjName}
use Rattle.ost_types.specs.Csum.{hex_of}
use Rattle.ost_types.specs.Path.{Path, under, is_below}
use Rattle.ost_types.proofs.Paths.{under-is_below}
use Rattle.ost_objects.specs.Object.{IsNamed}
use Rattle.fs_trait.specs.View.{Disk, View}
use Rattle.fs_trait.specs.Image.{Image, EachImage}
use Rattle.fs_trait.specs.Seen.{Seen, Vacant, shows, MayBe}
use Rattle.fs_trait.specs.Change.{Writes, Harmless, LeadsTo, Left}
use Rattle.fs_trait.specs.Effect.{Elapses}
use Rattle.fs_trait.proofs.Claims.{Image-may, Image-under, Image-folder, claim_each, passes}
use Rattle.fs_trait.proofs.Converse.{each_firm, image_shows}
use Rattle.fs_trait.proofs.Effects.{may_now}
use Rattle.fs_trait.proofs.Kept.{firm_kept}
use Rattle.repo_layout.specs.declared.folder.Folder.TheVariants.{Objects}
use Rattle.repo_layout.specs.Paths.{ending, folder_path, mark_path, object_path, objects_folder_path}
use Rattle.repo_layout.specs.Place.{ObjectsFolder, place}
use Rattle.repo_layout.proofs.Places.{place-mark, place-object, place-objects_folder}
use Rattle.repo_model.specs.Objects.{Stores, Marked, IsMap, object_in, path_of}
use Rattle.repo_model.specs.Trees.{name_of}
use Rattle.repo_model.specs.Whole.{Complete}
use Rattle.repo_model.proofs.Named.{IsSum-named}
use Rattle.repo_model.proofs.Stored.{stores_map}
use Rattle.reach.specs.Reach.{Is, Reach}
use Rattle.reach.proofs.Parts.{commit_whole}
use Rattle.rely_guarantee.specs.Books.{Books}
use Rattle.rely_guarantee.specs.Change.{TakesNone}
use Rattle.rely_guarantee.specs.Disks.{IsLeaf}
use Rattle.rely_guarantee.specs.Objects.{IsObjectSeen}
use Rattle.rely_guarantee.specs.Lasting.{AlwaysStores, IsRight, IsSafe, Lasts, NeverMarked, Stays, StaysOn}
use Rattle.rely_guarantee.specs.Laws.{Within}
use Rattle.rely_guarantee.specs.Rely.{Guarantee}
use Rattle.rely_guarantee.specs.Removing.{next_of}
use Rattle.rely_guarantee.specs.SystemInvariant.{Leads}
use Rattle.rely_guarantee.proofs.Goods.{leaf_seen}
use Rattle.rely_guarantee.proofs.Mays.{at_place, folders_harmless}
use Rattle.rely_guarantee.proofs.Sounds.{IsFs}

-- an object's path ends in a folder of objects
pub tail_of : ObjName → List ℕ
tail_of name = drop 2 (hex_of name.csum) ++ ending name.kind

pub object_under : (name : ObjName) → path_of name ≡ under (objects_folder_path name.csum) (tail_of name)
unfolding object_path objects_folder_path tail_of
object_under name = refl

pub above_objects : (sum : List ℕ) (p : Path) → is_below p (objects_folder_path sum) ≡ true → (is_below p (folder_path Objects) ≡ true) ⊎ (p ≡ objects_folder_path sum)
unfolding objects_folder_path
above_objects sum p below = under-is_below p (folder_path Objects) (take 2 (hex_of sum)) below

pub no_vacant_leaf : (s : Seen) → IsLeaf s → s ≡ Vacant → ⊥
no_vacant_leaf s leaf e = let k : IsLeaf Vacant = subst IsLeaf e leaf in k

-- what is removed next is one of those that are to be
taken_of : (n : ℕ) (xs : List ObjName) (x : ObjName) → Contains (take n xs) x → Contains xs x
taken_of n xs x has = subst (λ (l : List ObjName). Contains l x) (take-append-drop n xs) (Contains-append_left (take n xs) (drop n xs) x has)

left_of : (n : ℕ) (xs : List ObjName) (x : ObjName) → Contains (drop n xs) x → Contains xs x
left_of n xs x has = subst (λ (l : List ObjName). Contains l x) (take-append-drop n xs) (Contains-append_right (take n xs) (drop n xs) x has)

pub next_doomed : (b : Books) (o : ObjName) → Contains (next_of b) o → Contains b.doomed o
next_doomed b o is = left_of b.gone b.doomed o (taken_of 1 (drop b.gone b.doomed) o is)

-- nothing is removed
pub none_out : (name : ObjName) → ¬ (Contains [] name)
none_out name (k, less, is) = omega (arith, less)

-- One act.
module _ (b : Books) (v w : View) (actor lane : ℕ) (writes : Writes (Guarantee b v actor lane) v w) where
  -- what leads to the objects stays
  pub leads_harmless : (sum : List ℕ) → Harmless (Guarantee b v actor lane) (LeadsTo (objects_folder_path sum))
  leads_harmless sum p s m below = ⊎_elim
      (λ above. folders_harmless b v actor lane Objects p s m above)
      (λ is. at_place b v actor lane p s (ObjectsFolder (take 2 (hex_of sum))) (ap place is ∙ place-objects_folder sum) m)
      (above_objects sum p below)

  -- nothing is written where something stands but where it is removed, so nothing else comes to the path of an object that is safe
  safe_apart : (name : ObjName) → ¬ (Contains (next_of b) name) → IsSafe v name → (s : Seen) → Guarantee b v actor lane (path_of name) s → ⊥
  safe_apart name kept safe s m = ⊎_elim
      (λ comes. safe.there (shows v.now (path_of name)) (may_now v (path_of name)) comes.0)
      (λ goes. kept goes.1)
      (m.objects name.kind name.csum (place-object name.kind name.csum safe.sum))

  right_stays : (name : ObjName) → IsRight v name → IsRight w name
  right_stays name right = record {
    sum = right.sum;
    each = λ s may. ⊎_elim (right.each s) (λ m. ⊎_elim (λ comes. inr comes.1) (λ goes. inl goes.0) (m.objects name.kind name.csum (place-object name.kind name.csum right.sum))) (writes.only (path_of name) s may);
  }

  -- a mark comes only where its commit isn't
  pub unmarked_stays : (commit : List ℕ) → IsSafe v (name_of Commit commit) → NeverMarked commit v → NeverMarked commit w
  unmarked_stays commit safe none = record {
    each = λ s may leaf. ⊎_elim
        (λ was. none.each s was leaf)
        (λ m. safe.there (shows v.now (object_path Commit commit)) (may_now v (object_path Commit commit)) (m.marks commit (place-mark commit safe.sum) (no_vacant_leaf s leaf)).1)
        (writes.only (mark_path commit) s may);
  }

  -- where nothing is written over an object that is safe, but for these
  module _ (out : List ObjName) (W : Path → Seen → Type 0) (wrote : Writes W v w) (apart : (name : ObjName) → ¬ (Contains out name) → IsSafe v name → (s : Seen) → W (path_of name) s → ⊥) where
    same_by : (name : ObjName) → ¬ (Contains out name) → IsSafe v name → (s : Seen) → MayBe w (path_of name) s → MayBe v (path_of name) s
    same_by name kept safe s may = ⊎_elim (λ was. was) (λ m. absurd (apart name kept safe s m)) (wrote.only (path_of name) s may)

    safe_by : (name : ObjName) → ¬ (Contains out name) → IsSafe v name → IsSafe w name
    safe_by name kept safe = record {
      sum = safe.sum;
      there = λ s may. safe.there s (same_by name kept safe s may);
      above = firm_kept (Guarantee b v actor lane) (LeadsTo (objects_folder_path name.csum)) v w writes (leads_harmless name.csum) safe.above;
    }

    pub stays_by : Stays out v w
    stays_by = record { safe = safe_by; same = same_by; right = right_stays; unmarked = λ commit kept. unmarked_stays commit }

  pub stays_act : Stays (next_of b) v w
  stays_act = stays_by (next_of b) (Guarantee b v actor lane) writes safe_apart

  -- a step that takes no object from its path leaves all that are safe
  pub stays_taking : (W : Path → Seen → Type 0) → Writes W v w → Within W (Guarantee b v actor lane) → TakesNone W v → Stays [] v w
  stays_taking W wrote within takes = stays_by [] W wrote (λ name kept safe s x. ⊎_elim
      (λ comes. safe.there (shows v.now (path_of name)) (may_now v (path_of name)) comes.0)
      (λ goes. safe.there (shows v.now (path_of name)) (may_now v (path_of name)) (takes name.kind name.csum safe.sum (subst (W (path_of name)) goes.0 x)))
      ((within (path_of name) s x).objects name.kind name.csum (place-object name.kind name.csum safe.sum)))

pub stays_refl : (v : View) → Stays [] v v
stays_refl v = record { safe = λ name kept safe. safe; same = λ name kept safe s may. may; right = λ name right. right; unmarked = λ commit kept safe none. none }

-- where more may have been removed
pub stays_more : (out more : List ObjName) (v w : View) → ((name : ObjName) → Contains out name → Contains more name) → Stays out v w → Stays more v w
stays_more out more v w among stays = record {
  safe = λ name kept. stays.safe name (λ is. kept (among name is));
  same = λ name kept. stays.same name (λ is. kept (among name is));
  right = stays.right;
  unmarked = λ commit kept. stays.unmarked commit (λ is. kept (among (name_of Commit commit) is));
}

pub on_more : (out more : List ObjName) (v : View) (d : Disk) → ((name : ObjName) → Contains out name → Contains more name) → StaysOn out v d → StaysOn more v d
on_more out more v d among on = record {
  same = λ name kept. on.same name (λ is. kept (among name is));
  right = on.right;
  unmarked = λ commit kept. on.unmarked commit (λ is. kept (among (name_of Commit commit) is));
}

-- one after the other
pub stays_then : (one two : List ObjName) (u v w : View) → Stays one u v → Stays two v w → Stays (one ++ two) u w
stays_then one two u v w a b =
    let x = stays_more one (one ++ two) u v (λ name is. Contains-append_left one two name is) a in
    let y = stays_more two (one ++ two) v w (λ name is. Contains-append_right one two name is) b in
    record {
      safe = λ name kept safe. y.safe name kept (x.safe name kept safe);
      same = λ name kept safe s may. x.same name kept safe s (y.same name kept (x.safe name kept safe) s may);
      right = λ name right. y.right name (x.right name right);
      unmarked = λ commit kept safe none. y.unmarked commit kept (x.safe (name_of Commit commit) kept safe) (x.unmarked commit kept safe none);
    }

-- A disk that a crash leaves now.
module _ (v : View) (d : Disk) (i : Image v d) where
  same_image : (name : ObjName) → Leads v (objects_folder_path name.csum) → MayBe v (path_of name) (shows d (path_of name))
  same_image name above = subst (λ p. MayBe v p (shows d p)) (sym (object_under name))
      (Image-under v d i (objects_folder_path name.csum) (tail_of name) (Image-folder v d i (objects_folder_path name.csum) above))

  right_image : (name : ObjName) → IsRight v name → (shows d (path_of name) ≡ Vacant) ⊎ IsObjectSeen name.kind name.csum (shows d (path_of name))
  right_image name right = ⊎_elim (right.each (shows d (path_of name))) (λ none. inl none) (Image-may v d i (path_of name))

  unmarked_image : (commit : List ℕ) → NeverMarked commit v → Marked d commit → ⊥
  unmarked_image commit none marked =
      let leaf = leaf_seen d (d.at (mark_path commit)) marked in
      ⊎_elim (λ may. none.each (shows d (mark_path commit)) may leaf) (no_vacant_leaf (shows d (mark_path commit)) leaf) (Image-may v d i (mark_path commit))

  pub stays_image : StaysOn [] v d
  stays_image = record { same = λ name kept safe. same_image name safe.above; right = right_image; unmarked = λ commit kept safe none. unmarked_image commit none }

pub stays_later : (one two : List ObjName) (v w : View) (d : Disk) → Stays one v w → StaysOn two w d → StaysOn (one ++ two) v d
stays_later one two v w d now on =
    let x = stays_more one (one ++ two) v w (λ name is. Contains-append_left one two name is) now in
    let y = on_more two (one ++ two) w d (λ name is. Contains-append_right one two name is) on in
    record {
      same = λ name kept safe. x.same name kept safe (shows d (path_of name)) (y.same name kept (x.safe name kept safe));
      right = λ name right. y.right name (x.right name right);
      unmarked = λ commit kept safe none. y.unmarked commit kept (x.safe (name_of Commit commit) kept safe) (x.unmarked commit kept safe none);
    }

-- what a crash leaves then, where these may have been removed
pub image_later : (out : List ObjName) (v w : View) (d : Disk) → Stays out v w → Image w d → StaysOn out v d
image_later out v w d now i = subst (λ (l : List ObjName). StaysOn l v d) (append-nil out) (stays_later out [] v w d now (stays_image w d i))

-- Runs of acts.
module _ {F : Type 0} (view : F → Option View) (clock : F → ℕ) (was : F → ℕ → View → Type 0) (laws : IsFs view clock was) where
  same_told : (fs : F) (v w : View) → view fs ≡ Some v → view fs ≡ Some w → v ≡ w
  same_told fs v w a b = let e : Some v ≡ Some w = sym a ∙ b in cc

  -- what a crash leaves now
  left_now : (fs : F) (v : View) → view fs ≡ Some v → (t : ℕ) (d : Disk) → clock fs ≤ t → Left (was fs) t d → StaysOn [] v d
  left_now fs v told t d late left =
      let is : left.0 ≡ v = same_told fs left.0 v (laws.only_now fs t left.0 late left.1) told in
      stays_image v d (subst (λ u. Image u d) is left.2)

  pub lasts_refl : (fs : F) → Lasts [] view clock was fs fs
  lasts_refl fs v told = (v, told, record { later = omega arith; now = stays_refl v; since = left_now fs v told; earlier = λ t d left. inl left })

  pub lasts_then : (one two : List ObjName) (a b c : F) → Lasts one view clock was a b → Lasts two view clock was b c → Lasts (one ++ two) view clock was a c
  lasts_then one two a b c before behind u told =
      let x = before u told in
      let v = x.0 in
      let y = behind v x.1 in
      let w = y.0 in
      let wider : (d : Disk) → StaysOn one u d → StaysOn (one ++ two) u d = λ d. on_more one (one ++ two) u d (λ name is. Contains-append_left one two name is) in
      let o = x.2 in
      let p = y.2 in
      let first : clock a ≤ clock b = o.later in
      let then_ : clock b ≤ clock c = p.later in (
        w,
        y.1,
        record {
          later = omega (arith, first, then_);
          now = stays_then one two u v w o.now p.now;
          since = λ t d late left. ⊎_elim (λ was_left. wider d (o.since t d late was_left)) (λ on. stays_later one two u v d o.now on) (p.earlier t d left);
          earlier = λ t d left. ⊎_elim
              (λ was_left. ⊎_elim (λ longer. inl longer) (λ on. inr (wider d on)) (o.earlier t d was_left))
              (λ on. inr (stays_later one two u v d o.now on))
              (p.earlier t d left);
        },
      )

  -- A claim that no actor breaks holds of what each path may show after an act, and of what each disk that a crash left meanwhile
  -- shows, where a vacant path meets it or each crash leaves the folders above.
  pub claim_lasts : (C : Path → Seen → Type 0) (old new : F) (b : Books) (actor lane : ℕ) (v w : View) → view new ≡ Some w → Writes (Guarantee b v actor lane) v w → Elapses (clock old) (clock new) (was old) (was new) (view new)
      → Harmless (Guarantee b v actor lane) C → ((p : Path) (s : Seen) → MayBe v p s → C p s)
      → ((p : Path) (s : Seen) → MayBe w p s → C p s)
      × ((f : Path) (x : List ℕ) → C (under f x) Vacant ⊎ Leads w f → (t : ℕ) (d : Disk) → Left (was new) t d → Left (was old) t d ⊎ C (under f x) (shows d (under f x)))
  claim_lasts C old new b actor lane v w told writes time harmless claim =
      let now : (p : Path) (s : Seen) → MayBe w p s → C p s = firm_kept (Guarantee b v actor lane) C v w writes harmless claim in (
        now,
        λ f x above t d left. ⊎_elim
            (λ was_left. inl was_left)
            (λ here. inr (claim_each (C (under f x)) w f x (now (under f x)) above d (subst (λ u. Image u d) (same_told new here.0 w here.1 told) here.2)))
            ((passes (clock old) (clock new) (was old) (was new) (view new) (laws.only_now new) time).nothing_else t d left),
      )

  -- where more may have been removed
  pub lasts_more : (out more : List ObjName) (old new : F) → ((name : ObjName) → Contains out name → Contains more name) → Lasts out view clock was old new → Lasts more view clock was old new
  lasts_more out more old new among lasts v told =
      let x = lasts v told in (
        x.0,
        x.1,
        record {
          later = x.2.later;
          now = stays_more out more v x.0 among x.2.now;
          since = λ t d late left. on_more out more v d among (x.2.since t d late left);
          earlier = λ t d left. ⊎_elim (λ was_left. inl was_left) (λ on. inr (on_more out more v d among on)) (x.2.earlier t d left);
        },
      )

  -- one act
  pub lasts_stays : (out : List ObjName) (old new : F) → ((v : View) → view old ≡ Some v → (w : View) × (view new ≡ Some w) × Stays out v w) → Elapses (clock old) (clock new) (was old) (was new) (view new) → Lasts out view clock was old new
  lasts_stays out old new stays time v told =
      let x = stays v told in
      let w = x.0 in
      let earlier : (t : ℕ) (d : Disk) → Left (was new) t d → Left (was old) t d ⊎ StaysOn out v d =
      λ t d left. ⊎_elim
      (λ was_left. inl was_left)
      (λ here. inr (image_later out v w d x.2 (subst (λ u. Image u d) (same_told new here.0 w here.1 x.1) here.2)))
      ((passes (clock old) (clock new) (was old) (was new) (view new) (laws.only_now new) time).nothing_else t d left)
      in (
        w,
        x.1,
        record {
          later = time.later;
          now = x.2;
          since = λ t d late left. ⊎_elim (λ was_left. on_more [] out v d (λ name is. absurd (none_out name is)) (left_now old v told t d late was_left)) (λ on. on) (earlier t d left);
          earlier = earlier;
        },
      )

-- Bytes that each crash leaves as an object.
pub always_safe : (v : View) (name : ObjName) (bytes : List ℕ) → AlwaysStores v name bytes → IsSafe v name
always_safe v name bytes has = record {
  sum = IsSum-named name bytes has.named;
  there = λ s may e. (let n : None ≡ Some bytes = sym (ap (object_in name.kind) e) ∙ has.holds s may in cc);
  above = has.above;
}

pub always_one : (v : View) → IsMap (AlwaysStores v)
always_one v = record { one = λ name b c one two. (let e : Some b ≡ Some c = sym (one.holds (shows v.now (path_of name)) (may_now v (path_of name))) ∙ two.holds (shows v.now (path_of name)) (may_now v (path_of name)) in cc) }

pub always_stays : (out : List ObjName) (v w : View) → Stays out v w → (name : ObjName) (bytes : List ℕ) → ¬ (Contains out name) → AlwaysStores v name bytes → AlwaysStores w name bytes
always_stays out v w stays name bytes kept has =
    let safe = always_safe v name bytes has in
    record { holds = λ s may. has.holds s (stays.same name kept safe s may); above = (stays.safe name kept safe).above; named = has.named }

pub always_left : (out : List ObjName) (v : View) (d : Disk) → StaysOn out v d → (name : ObjName) (bytes : List ℕ) → ¬ (Contains out name) → AlwaysStores v name bytes → Stores d name bytes
always_left out v d on name bytes kept has = record { there = has.holds (shows d (path_of name)) (on.same name kept (always_safe v name bytes has)); named = has.named }

pub always_from : (v : View) (name : ObjName) (bytes : List ℕ) → Leads v (objects_folder_path name.csum) → EachImage v (λ d. Stores d name bytes) → AlwaysStores v name bytes
always_from v name bytes above each = record { holds = λ s may. holds s (subst (λ p. MayBe v p s) (object_under name) may); above = above; named = (each image.0 image.1).named }
  where
    f : Path
    f = objects_folder_path name.csum

    there : (d : Disk) → Image v d → object_in name.kind (shows d (under f (tail_of name))) ≡ Some bytes
    there d i = subst (λ p. object_in name.kind (shows d p) ≡ Some bytes) (object_under name) (each d i).there

    holds : (s : Seen) → MayBe v (under f (tail_of name)) s → object_in name.kind s ≡ Some bytes
    holds s may = each_firm (λ x. object_in name.kind x ≡ Some bytes) v f (tail_of name) above there s may

    image : (d : Disk) × Image v d × (shows d (under f (tail_of name)) ≡ shows v.now (under f (tail_of name)))
    image = image_shows v f (tail_of name) (shows v.now (under f (tail_of name))) (may_now v (under f (tail_of name))) above

-- What has its name there is what was made, where nothing else of that name is.
pub always_named : (v : View) (name : ObjName) (bytes : List ℕ) → IsSafe v name → IsRight v name → IsNamed name bytes
    → ((s : Seen) (b : List ℕ) → MayBe v (path_of name) s → object_in name.kind s ≡ Some b → IsNamed name b → b ≡ bytes) → AlwaysStores v name bytes
always_named v name bytes safe right named one = record {
  holds = λ s may. ⊎_elim (λ none. absurd (safe.there s may none)) (λ is. is.holds ∙ ap Some (one s is.bytes may is.holds is.named)) (right.each s may);
  above = safe.above;
  named = named;
}

pub always_whole : (out : List ObjName) (v w : View) (limits : Limits) (commit : List ℕ) → Stays out v w → ((o : ObjName) → Reach (AlwaysStores v) (Is (name_of Commit commit)) o → ¬ (Contains out o)) → Complete (AlwaysStores v) limits commit → Complete (AlwaysStores w) limits commit
always_whole out v w limits commit stays kept = commit_whole (AlwaysStores v) (AlwaysStores w) commit (λ o b reached has. always_stays out v w stays o b (kept o reached) has) (always_one w) limits

pub always_complete : (out : List ObjName) (v : View) (d : Disk) (limits : Limits) (commit : List ℕ) → StaysOn out v d → ((o : ObjName) → Reach (AlwaysStores v) (Is (name_of Commit commit)) o → ¬ (Contains out o)) → Complete (AlwaysStores v) limits commit → Complete (Stores d) limits commit
always_complete out v d limits commit on kept = commit_whole (AlwaysStores v) (Stores d) commit (λ o b reached has. always_left out v d on o b (kept o reached) has) (stores_map d) limits
