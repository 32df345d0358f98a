-- The store stands while objects are removed: commits, then behind a sync of all what they named, then marks.
use Rattle.std.proofs.Common.{◌≡◌, ◌≢◌, ◌⊎◌, inl, inr, ⊎_elim, ℕ, List, [], ◌∷◌, Some, arith, refl, sym, ◌∙◌, ap, subst}
use Rattle.ost_types.specs.declared.limits.Limits.{Limits}
use Rattle.ost_types.specs.declared.object.Kind.{Kind}
use Rattle.ost_types.specs.declared.object.Kind.TheVariants.{Commit, DirTree, DirMeta, File}
use Rattle.ost_types.specs.declared.object.ObjName.{ObjName}
use Rattle.ost_types.specs.Path.{Path}
use Rattle.ost_types.proofs.Paths.{same_or_apart}
use Rattle.ost_objects.specs.Object.{IsNamed}
use Rattle.fs_trait.specs.View.{View}
use Rattle.fs_trait.specs.Seen.{Seen, Vacant, shows, MayBe}
use Rattle.fs_trait.specs.Change.{Writes}
use Rattle.fs_trait.proofs.Effects.{may_now}
use Rattle.repo_layout.specs.Paths.{config_path, mark_path, objects_folder_path, ref_path}
use Rattle.repo_layout.specs.RefFile.{IsSum}
use Rattle.repo_model.specs.Objects.{Store, Stores, object_in, path_of}
use Rattle.repo_model.specs.Trees.{name_of}
use Rattle.obj_store.proofs.PlaceLemmas.{one_name}
use Rattle.reach.specs.Reach.{Is, ObjNames, Reach, Refers, onward, start}
use Rattle.reach.proofs.Reaching.{reach_kind, reach_least, refers_where}
use Rattle.rely_guarantee.specs.Books.{Books}
use Rattle.rely_guarantee.specs.Disks.{Says}
use Rattle.rely_guarantee.specs.State.{RefOf}
use Rattle.rely_guarantee.specs.SystemInvariant.{Leads}
use Rattle.durable_store.specs.Brought.{MayRight}
use Rattle.durable_store.specs.Removals.{AreKept, IsRemoval, IsSettled, TakesMark, TakesObject}
use Rattle.durable_store.specs.Standing.{Below, IsAlwaysMarked, IsHeld, IsKeptWhole, IsNeverThere, IsSoundSeen, IsWholeIfThere, StoreStands}
use Rattle.durable_store.proofs.Apart.{config_mark, config_object, leads_on, mark_object, mark_place, object_place, one_mark, vacant_or}
use Rattle.durable_store.proofs.Vacating.{held_less, never_on, spared_held, spared_whole, stands_on, stored_there, whole_on}

-- whether it is of a commit
commit_or : (k : Kind) → (k ≡ Commit) ⊎ (k ≢ Commit)
commit_or Commit = inl refl
commit_or DirTree = inr (λ e. let n : DirTree ≡ Commit = e in cc)
commit_or DirMeta = inr (λ e. let n : DirMeta ≡ Commit = e in cc)
commit_or File = inr (λ e. let n : File ≡ Commit = e in cc)

one_sum : (a b : List ℕ) → (a ≡ b) ⊎ (a ≢ b)
one_sum a b = by (same_or_apart (a ∷ []) (b ∷ []))
  where
    by : (a ∷ [] ≡ b ∷ []) ⊎ (a ∷ [] ≢ b ∷ []) → (a ≡ b) ⊎ (a ≢ b)
    by (inl e) = let x : a ∷ [] ≡ b ∷ [] = e in inl cc
    by (inr apart) = inr (λ e. apart (ap (λ (c : List ℕ). c ∷ []) e))

-- What goes is one object.
module _ (v w : View) (W : Path → Seen → Type 0) (writes : Writes W v w) (keep : ObjNames) (takes : TakesObject keep v W) where
  abbrev Spared : ObjNames
  Spared o = o ≢ takes.name

  object_there : (p : Path) (s : Seen) → MayBe w p s → s ≢ Vacant → MayBe v p s
  object_there p s may some = ⊎_elim (λ was. was) (λ wrote. absurd (some (takes.vacates p s wrote).1)) (writes.only p s may)

  object_leads : (sum : List ℕ) → Leads v (objects_folder_path sum) → Leads w (objects_folder_path sum)
  object_leads = leads_on (path_of takes.name) W v w (object_place takes.name takes.sum) takes.vacates writes

  object_elsewhere : (p : Path) → (p ≡ path_of takes.name → ⊥) → (s : Seen) → MayBe w p s → MayBe v p s
  object_elsewhere p apart s may = ⊎_elim (λ was. was) (λ wrote. absurd (apart (takes.vacates p s wrote).0)) (writes.only p s may)

  pub object_same : (o : ObjName) → IsSum o.csum → Spared o → (s : Seen) → MayBe w (path_of o) s → MayBe v (path_of o) s
  object_same o sum stays = object_elsewhere (path_of o) (λ e. stays (one_name o takes.name sum takes.sum e))

  object_marked : (commit : List ℕ) → IsSum commit → IsAlwaysMarked v commit → IsAlwaysMarked w commit
  object_marked commit sum marked s may = marked s (object_elsewhere (mark_path commit) (λ e. mark_object commit takes.name sum takes.sum e) s may)

  module _ (limits : Limits) (brings : Store) where
    -- A commit goes: what commits name isn't one.
    module _ (is_commit : takes.name.kind ≡ Commit) where
      others_stay : (o : ObjName) → o.kind ≢ Commit → Spared o
      others_stay o plain e = plain (ap (λ (x : ObjName). x.kind) e ∙ is_commit)

      pub commit_goes : (commit : List ℕ) → IsSum commit → IsKeptWhole limits brings v commit → IsKeptWhole limits brings w commit
      commit_goes commit sum (inl marked) = inl (object_marked commit sum marked)
      commit_goes commit sum (inr (inl never)) = inr (inl (never_on v w object_there object_leads Spared object_same commit never))
      commit_goes commit sum (inr (inr (inl whole))) = inr (inr (inl (spared_whole v w object_there object_leads Spared object_same limits commit others_stay whole)))
      commit_goes commit sum (inr (inr (inr held))) = inr (inr (inr (spared_held v w object_there object_leads Spared object_same limits brings commit others_stay held)))

    -- Another goes: each commit that a crash may leave is kept and is as it is now, so what it may name it names now, and that is kept.
    module _ (settled : IsSettled keep v) (closed : (o next : ObjName) → keep o → Refers (Stores v.now) o next → keep next)
        (sound : (o : ObjName) → IsSum o.csum → (s : Seen) → MayBe v (path_of o) s → s ≢ Vacant → IsSoundSeen limits.content o s) where
      kept_stays : (o : ObjName) → keep o → Spared o
      kept_stays o kept e = takes.gone (subst keep e kept)

      never_there : (commit : List ℕ) → IsSum commit → shows v.now (path_of (name_of Commit commit)) ≡ Vacant → IsNeverThere v commit
      never_there commit sum none s may = ⊎_elim
          (λ is. is)
          (λ some. settled.steady (name_of Commit commit) sum (settled.commits commit sum s may some) s may ∙ none)
          (vacant_or s)

      module _ (commit : List ℕ) (sum : IsSum commit) (some : shows v.now (path_of (name_of Commit commit)) ≢ Vacant) where
        abbrev itself : ObjName
        itself = name_of Commit commit

        is_kept : keep itself
        is_kept = settled.commits commit sum (shows v.now (path_of itself)) (may_now v (path_of itself)) some

        below_now : (is : IsWholeIfThere limits v commit) (o : ObjName) (c : List ℕ) → Below v commit is.bytes o c → Stores v.now o c
        below_now is o c (inl a) = record { there = a.1.holds (shows v.now (path_of o)) (may_now v (path_of o)); named = a.1.named }
        below_now is o c (inr e) = subst (λ x. Stores v.now x c) (sym e.0) (subst (Stores v.now itself) (sym e.1)
            (record { there = is.only (shows v.now (path_of itself)) (may_now v (path_of itself)) some; named = is.named }))

        whole_there : IsWholeIfThere limits v commit → IsWholeIfThere limits w commit
        whole_there is = whole_on v w object_there object_leads Spared object_same limits commit is keep is_kept
            (λ o next kept refers. closed o next kept (refers_where (Below v commit is.bytes) (Stores v.now) o next (below_now is o) refers))
            (λ o plain kept. kept_stays o kept)

        module _ (is : IsHeld limits brings v commit) where
          abbrev Walked : ObjNames
          Walked = Reach (MayRight v is.objects) (Is itself)

          walked_sum : (o : ObjName) → Walked o → IsSum o.csum
          walked_sum o reached = ⊎_elim
              (λ e. subst (λ (x : ObjName). IsSum x.csum) (sym e) sum)
              (λ plain. (is.held o plain reached).sum)
              (reach_kind (MayRight v is.objects) (Is itself) o reached)

          -- what may be there with the right bytes is there now
          right_now : (o : ObjName) (c : List ℕ) → Walked o → keep o → MayRight v is.objects o c → Stores v.now o c
          right_now o c reached kept (of, s, may, holds) =
              let at = walked_sum o reached in
              let it = sound o at s may (stored_there o.kind s c holds) in
              let e : Some it.bytes ≡ Some c = sym it.holds ∙ holds in
              let same : it.bytes ≡ c = cc in
              record { there = sym (ap (object_in o.kind) (settled.steady o at kept s may)) ∙ holds; named = subst (IsNamed o) same it.named }

          abbrev Stays : ObjNames
          Stays o = keep o × Walked o

          walks_on : (o next : ObjName) → Stays o → Refers (MayRight v is.objects) o next → Stays next
          walks_on o next stays refers = (
            closed o next stays.0 (refers_where (MayRight v is.objects) (Stores v.now) o next (λ c. right_now o c stays.1 stays.0) refers),
            onward o next stays.1 refers,
          )

          walked_kept : (o : ObjName) → Walked o → Stays o
          walked_kept = reach_least (MayRight v is.objects) (Is itself) Stays (λ o e. (subst keep (sym e) is_kept, start o e)) walks_on

          held_there : IsHeld limits brings w commit
          held_there = held_less v w object_there object_leads Spared object_same limits brings commit is (λ o plain reached. kept_stays o (walked_kept o reached).0)

      pub other_goes : (commit : List ℕ) → IsSum commit → IsKeptWhole limits brings v commit → IsKeptWhole limits brings w commit
      other_goes commit sum (inl marked) = inl (object_marked commit sum marked)
      other_goes commit sum (inr (inl never)) = inr (inl (never_on v w object_there object_leads Spared object_same commit never))
      other_goes commit sum (inr (inr is)) = ⊎_elim
          (λ none. inr (inl (never_on v w object_there object_leads Spared object_same commit (never_there commit sum none))))
          (λ some. ⊎_elim (λ whole. inr (inr (inl (whole_there commit sum some whole)))) (λ held. inr (inr (inr (held_there commit sum some held)))) is)
          (vacant_or (shows v.now (path_of (name_of Commit commit))))

    module _ (config : Seen → Type 0) (names : List ObjName) (b : Books) (lane : ℕ) (kept : AreKept keep b v lane) where
      refs_stay : (name commit : List ℕ) (s : Seen) → MayBe v (ref_path name) s → Says (RefOf name) (Some commit) s → Spared (name_of Commit commit)
      refs_stay name commit s may says e =
          takes.gone (subst keep e (kept.roots (name_of Commit commit) (inr (inl (RefOf name, Some commit, s, may, says, commit, (0, omega arith, refl), refl)))))

      config_stays : (s : Seen) → MayBe w config_path s → MayBe v config_path s
      config_stays = object_elsewhere config_path (λ e. config_object takes.name takes.sum e)

      pub object_goes : StoreStands limits brings config names v → StoreStands limits brings config names w
      object_goes is = stands_on v w object_there object_leads Spared object_same limits brings config names
          (⊎_elim (λ is_commit. commit_goes is_commit) (λ plain. other_goes (takes.settled plain) kept.closed is.objects) (commit_or takes.name.kind))
          refs_stay config_stays is

-- Where no object's path is written, as in a sync: nor one of a mark, but of a commit that no crash leaves.
module _ (v w : View) (there : (p : Path) (s : Seen) → MayBe w p s → s ≢ Vacant → MayBe v p s) (leads : (sum : List ℕ) → Leads v (objects_folder_path sum) → Leads w (objects_folder_path sum))
    (objects : (o : ObjName) → IsSum o.csum → (s : Seen) → MayBe w (path_of o) s → MayBe v (path_of o) s)
    (marks : (commit : List ℕ) → IsSum commit → IsAlwaysMarked v commit → IsAlwaysMarked w commit ⊎ IsNeverThere v commit)
    (config_before : (s : Seen) → MayBe w config_path s → MayBe v config_path s) where
  abbrev All : ObjNames
  All o = Unit {0}

  same : (o : ObjName) → IsSum o.csum → All o → (s : Seen) → MayBe w (path_of o) s → MayBe v (path_of o) s
  same o sum x = objects o sum

  none_goes : (limits : Limits) (brings : Store) (commit : List ℕ) → IsSum commit → IsKeptWhole limits brings v commit → IsKeptWhole limits brings w commit
  none_goes limits brings commit sum (inl marked) = ⊎_elim (λ stays. inl stays) (λ never. inr (inl (never_on v w there leads All same commit never))) (marks commit sum marked)
  none_goes limits brings commit sum (inr (inl never)) = inr (inl (never_on v w there leads All same commit never))
  none_goes limits brings commit sum (inr (inr (inl whole))) = inr (inr (inl (spared_whole v w there leads All same limits commit (λ o plain. tt) whole)))
  none_goes limits brings commit sum (inr (inr (inr held))) = inr (inr (inr (spared_held v w there leads All same limits brings commit (λ o plain. tt) held)))

  pub objects_stay : (limits : Limits) (brings : Store) (config : Seen → Type 0) (names : List ObjName) → StoreStands limits brings config names v → StoreStands limits brings config names w
  objects_stay limits brings config names = stands_on v w there leads All same limits brings config names (none_goes limits brings) (λ name commit s may says. tt) config_before

-- What goes is a mark.
module _ (v w : View) (W : Path → Seen → Type 0) (writes : Writes W v w) (takes : TakesMark v W) where
  mark_there : (p : Path) (s : Seen) → MayBe w p s → s ≢ Vacant → MayBe v p s
  mark_there p s may some = ⊎_elim (λ was. was) (λ wrote. absurd (some (takes.vacates p s wrote).1)) (writes.only p s may)

  mark_elsewhere : (p : Path) → (p ≡ mark_path takes.commit → ⊥) → (s : Seen) → MayBe w p s → MayBe v p s
  mark_elsewhere p apart s may = ⊎_elim (λ was. was) (λ wrote. absurd (apart (takes.vacates p s wrote).0)) (writes.only p s may)

  pub mark_same : (o : ObjName) → IsSum o.csum → (s : Seen) → MayBe w (path_of o) s → MayBe v (path_of o) s
  mark_same o sum = mark_elsewhere (path_of o) (λ e. mark_object takes.commit o takes.sum sum (sym e))

  other_marks : (commit : List ℕ) → IsSum commit → IsAlwaysMarked v commit → IsAlwaysMarked w commit ⊎ IsNeverThere v commit
  other_marks commit sum marked = ⊎_elim
      (λ e. inr (subst (IsNeverThere v) (sym e) takes.never))
      (λ apart. inl (λ s may. marked s (mark_elsewhere (mark_path commit) (λ e. apart (one_mark commit takes.commit sum takes.sum e)) s may)))
      (one_sum commit takes.commit)

  pub mark_goes : (limits : Limits) (brings : Store) (config : Seen → Type 0) (names : List ObjName) → StoreStands limits brings config names v → StoreStands limits brings config names w
  mark_goes = objects_stay v w mark_there (leads_on (mark_path takes.commit) W v w (mark_place takes.commit takes.sum) takes.vacates writes) mark_same other_marks
      (mark_elsewhere config_path (λ e. config_mark takes.commit takes.sum e))

-- Nothing is written.
module _ (v w : View) (W : Path → Seen → Type 0) (writes : Writes W v w) (none : (p : Path) (s : Seen) → W p s → ⊥) where
  pub as_before : (p : Path) (s : Seen) → MayBe w p s → MayBe v p s
  as_before p s may = ⊎_elim (λ was. was) (λ wrote. absurd (none p s wrote)) (writes.only p s may)

  pub nothing_goes : (limits : Limits) (brings : Store) (config : Seen → Type 0) (names : List ObjName) → StoreStands limits brings config names v → StoreStands limits brings config names w
  nothing_goes = objects_stay v w (λ p s may some. as_before p s may) (λ sum leads p s may. leads p s (as_before p s may)) (λ o sum s. as_before (path_of o) s)
      (λ commit sum marked. inl (λ s may. marked s (as_before (mark_path commit) s may))) (as_before config_path)

-- So over each step of a removal.
module _ (limits : Limits) (brings : Store) (config : Seen → Type 0) (names : List ObjName) (v w : View) (W : Path → Seen → Type 0) (writes : Writes W v w) (keep : ObjNames) (b : Books) (lane : ℕ) (kept : AreKept keep b v lane) where
  pub removal_stands : IsRemoval keep v W → StoreStands limits brings config names v → StoreStands limits brings config names w
  removal_stands (inl takes) = object_goes v w W writes keep takes limits brings config names b lane kept
  removal_stands (inr (inl takes)) = mark_goes v w W writes takes limits brings config names
  removal_stands (inr (inr none)) = nothing_goes v w W writes none limits brings config names
