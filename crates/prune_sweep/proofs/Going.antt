-- Objects go one after the other, and at the end exactly those are gone that weren't reachable.
use Rattle.std.proofs.Common.{◌≡◌, ◌⊎◌, inl, inr, ⊎_elim, ℕ, ◌<◌, ◌≤◌, ◌+◌, ◌-◌, List, length, take, drop, get_or, Some, None, sym, ◌∙◌, ap, subst, arith}
use Rattle.std.specs.Prelude.{Contains}
use Rattle.std.proofs.lemmas.List.{take_all, length-take-le, length-drop, get_or-take, get_or-drop, get_or_default}
use Rattle.ost_types.specs.declared.object.ObjName.{ObjName}
use Rattle.fs_trait.specs.declared.types.Value.TheVariants.{Absent}
use Rattle.fs_trait.specs.Seen.{Vacant, seen, shows}
use Rattle.fs_trait.specs.View.{Disk, View, named}
use Rattle.fs_trait.proofs.Effects.{named-writes, shows_named}
use Rattle.fs_trait.proofs.Facts.{vacant_absent}
use Rattle.repo_layout.specs.RefFile.{IsSum}
use Rattle.repo_model.specs.Objects.{Stores, object_in, path_of}
use Rattle.repo_model.proofs.Named.{IsSum-named}
use Rattle.repo_model.proofs.Stored.{stores_same}
use Rattle.obj_store.proofs.PlaceLemmas.{one_name}
use Rattle.reach.specs.Removed.{IsPruned}
use Rattle.store_check.specs.Listing.{IsThere}
use Rattle.store_check.proofs.Damages.{nothing_at}
use Rattle.prune_mark.specs.Lasting.{ShowSameObjects}
use Rattle.prune_sweep.specs.Planned.{IsPlanned}
use Rattle.prune_sweep.specs.Sweeping.{Sweeping}
use Rattle.prune_sweep.specs.Swept.{AreNamed, IsSwept, Unlinks}

-- ---- the first so many of a list, and the others

module _ {X : Type 0} (xs : List X) (n : ℕ) (within : n ≤ length xs) where
  pub taken_at : (x : X) → Contains (take n xs) x → (k : ℕ) × (k < n) × (get_or xs k x ≡ x)
  taken_at x (k, less, is) = let long = length-take-le n xs within in let l : k < n = omega (arith, less, long) in (k, l, sym (get_or-take n xs k x l) ∙ is)

  pub at_taken : (x : X) (k : ℕ) → k < n → get_or xs k x ≡ x → Contains (take n xs) x
  at_taken x k less is = let long = length-take-le n xs within in (k, omega (arith, less, long), get_or-take n xs k x less ∙ is)

  pub left_at : (x : X) → Contains (drop n xs) x → (k : ℕ) × (n ≤ k) × (k < length xs) × (get_or xs k x ≡ x)
  left_at x (k, less, is) = let long = length-drop n xs in (n + k, omega arith, omega (arith, less, long), sym (get_or-drop n xs k x) ∙ is)

  pub at_left : (x : X) (k : ℕ) → n ≤ k → k < length xs → get_or xs k x ≡ x → Contains (drop n xs) x
  at_left x k le less is = let long = length-drop n xs in (k - n, omega (arith, le, less, long), get_or-drop n xs (k - n) x ∙ ap (λ i. get_or xs i x) (omega (arith, le)) ∙ is)

-- ---- a path goes

-- what an unlink does
pub unlinks_named : (v : View) (o : ObjName) → IsSum o.csum → Unlinks o v.now (named (path_of o) Absent v).now
unlinks_named v o sum = record {
  vacant = shows_named v (path_of o) Absent;
  apart = λ x other. ⊎_elim (λ same. inl same) (λ wrote. inr (one_name x o other sum wrote.0)) ((named-writes v (path_of o) Absent).now (path_of x));
}

module _ (d e : Disk) (o : ObjName) (is : Unlinks o d e) where
  not_stored : (b : List ℕ) → Stores e o b → ⊥
  not_stored b s = let n : None ≡ Some b = sym (ap (object_in o.kind) is.vacant) ∙ s.there in cc

  there_back : (x : ObjName) → (shows e (path_of x) ≡ shows d (path_of x)) → IsThere e x → IsThere d x
  there_back x same there = record { sum = there.sum; there = λ absent. there.there (vacant_absent e (path_of x) (same ∙ ap (seen d) absent)) }

  there_to : (x : ObjName) → (shows e (path_of x) ≡ shows d (path_of x)) → IsThere d x → IsThere e x
  there_to x same there = record { sum = there.sum; there = λ absent. there.there (vacant_absent d (path_of x) (sym same ∙ ap (seen e) absent)) }

-- ---- the law

module _ (planned : Disk) (removed : List ObjName) where
  pub swept_begins : (gone : ℕ) → gone ≡ 0 → ((o : ObjName) → Contains removed o → IsThere planned o) → IsSwept planned removed gone planned
  swept_begins gone none there = subst (λ n. IsSwept planned removed n planned) (sym none) (record {
    stays = λ o b s. s;
    either = λ o b s. inl s;
    away = λ o has there. absurd (let t = taken_at removed 0 (omega arith) o has in omega (arith, t.1));
    rest = λ o has. there o has;
  })

  -- objects that aren't touched
  pub swept_lasts : (gone : ℕ) (d e : Disk) → ShowSameObjects d e → IsSwept planned removed gone d → IsSwept planned removed gone e
  swept_lasts gone d e same was = record {
    stays = λ o b s. was.stays o b (stores_same e d o b (sym (same o (IsSum-named o b s.named))) s);
    either = λ o b s. ⊎_elim (λ there. inl (stores_same d e o b (same o (IsSum-named o b there.named)) there)) (λ has. inr has) (was.either o b s);
    away = λ o has there. was.away o has (record { sum = there.sum; there = λ absent. there.there (vacant_absent e (path_of o) (same o there.sum ∙ ap (seen d) absent)) });
    rest = λ o has. (let there = was.rest o has in record { sum = there.sum; there = λ absent. there.there (vacant_absent d (path_of o) (sym (same o there.sum) ∙ ap (seen e) absent)) });
  }

  module _ (once : (i j : ℕ) (o : ObjName) → i < length removed → j < length removed → get_or removed i o ≡ o → get_or removed j o ≡ o → i ≡ j) (gone : ℕ) (o : ObjName) (less : gone < length removed) (at : get_or removed gone o ≡ o) where
    -- one more is gone
    pub swept_more : (next : ℕ) → next ≡ gone + 1 → (d e : Disk) → Unlinks o d e → IsSwept planned removed gone d → IsSwept planned removed next e
    swept_more next is d e unlinks was = subst (λ n. IsSwept planned removed n e) (sym is) (record {
      stays = λ x b s. ⊎_elim
          (λ same. was.stays x b (stores_same e d x b (sym same) s))
          (λ one. absurd (not_stored d e o unlinks b (subst (λ (y : ObjName). Stores e y b) one s)))
          (unlinks.apart x (IsSum-named x b s.named));
      either = λ x b s. ⊎_elim
          (λ there. ⊎_elim (λ same. inl (stores_same d e x b same there)) (λ one. inr (now_gone x one)) (unlinks.apart x (IsSum-named x b there.named)))
          (λ has. inr (still_gone x has))
          (was.either x b s);
      away = λ x has there. ⊎_elim
          (λ before. ⊎_elim (λ same. was.away x before (there_back d e o unlinks x same there)) (λ one. never x one there) (unlinks.apart x there.sum))
          (λ one. never x one there)
          (which x has);
      rest = λ x has.
          (let l = left_at removed (gone + 1) within x has in
          let there = was.rest x (at_left removed gone (omega (arith, less)) x l.0 (omega (arith, l.1)) l.2 l.3) in
          ⊎_elim
          (λ same. there_to d e o unlinks x same there)
          (λ one. absurd (let same_place = once l.0 gone x l.2 less l.3 (subst (λ (y : ObjName). get_or removed gone y ≡ y) (sym one) at) in omega (arith, same_place, l.1)))
          (unlinks.apart x there.sum));
    })
      where
        within : gone + 1 ≤ length removed
        within = omega (arith, less)

        now_gone : (x : ObjName) → x ≡ o → Contains (take (gone + 1) removed) x
        now_gone x one = at_taken removed (gone + 1) within x gone (omega arith) (subst (λ (y : ObjName). get_or removed gone y ≡ y) (sym one) at)

        still_gone : (x : ObjName) → Contains (take gone removed) x → Contains (take (gone + 1) removed) x
        still_gone x has = let t = taken_at removed gone (omega (arith, less)) x has in at_taken removed (gone + 1) within x t.0 (omega (arith, t.1)) t.2

        never : (x : ObjName) → x ≡ o → IsThere e x → ⊥
        never x one there = there.there (vacant_absent e (path_of x) (subst (λ (y : ObjName). shows e (path_of y) ≡ Vacant) (sym one) unlinks.vacant))

        split : (k : ℕ) → k < gone + 1 → (k < gone) ⊎ (k ≡ gone)
        split k lt = grind (arith, lt)

        which : (x : ObjName) → Contains (take (gone + 1) removed) x → Contains (take gone removed) x ⊎ (x ≡ o)
        which x has =
            let t = taken_at removed (gone + 1) within x has in
            ⊎_elim
            (λ lt. inl (at_taken removed gone (omega (arith, less)) x t.0 lt t.2))
            (λ e_. inr (sym t.2 ∙ ap (λ k. get_or removed k x) e_ ∙ get_or_default removed gone x o less ∙ at))
            (split t.0 t.1)

-- once all are gone
pub swept_whole : (planned d : Disk) (from : List ObjName) (depth : ℕ) (pins : List ObjName) (r : Sweeping) → IsPlanned planned from depth pins r → AreNamed planned → IsSwept planned r.removed (length r.removed) d → IsPruned (Stores planned) (Stores d) (Contains from) depth (Contains r.removed)
swept_whole planned d from depth pins r plan sound swept = record {
  split = record {
    stays = swept.stays;
    either = λ o b s. ⊎_elim (λ there. inl there) (λ has. inr (subst (λ l. Contains l o) whole has)) (swept.either o b s);
    was = λ o goes. sound o (plan.there o goes);
    apart = λ o goes is. swept.away o (subst (λ l. Contains l o) (sym whole) goes) (record { sum = IsSum-named o is.0 is.1.named; there = λ none. nothing_at d o is.0 none is.1.there });
  };
  only = λ o goes reached. plan.only o goes (sound o (plan.there o goes)) reached;
  all = plan.all;
}
  where
    whole : take (length r.removed) r.removed ≡ r.removed
    whole = take_all (length r.removed) r.removed (omega arith)
