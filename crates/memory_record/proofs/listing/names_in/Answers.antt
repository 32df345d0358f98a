use Rattle.std.proofs.Common.{◌≡◌, ◌≢◌, ◌⊎◌, ◌∷◌, ◌++◌, [], inl, inr, ⊎_elim, sym, ◌∙◌, subst, arith, Contains, Some}
use Rattle.std.proofs.lemmas.List.Elements.{Contains-push, Contains-append_left, Contains-push_cases}
use Rattle.ost_types.specs.Path.{Name, under}
use Rattle.fs_trait.specs.declared.types.Value.TheVariants.{Absent}
use Rattle.memory_record.specs.Changes.{view_of}
use Rattle.memory_record.specs.Seen.{target_of}
use Rattle.memory_record.proofs.Listings.{all_listed, below_next, sorted_listing}
use Rattle.memory_record.proofs.listing.names_in.Goals as goal
use Rattle.memory_record.proofs.listing.names_in.Goals.{in-Some+in_ok-name+in-Some-2+in_ok-push-in-Some-2, in_default}

pub loop-change-preserved : goal.loop-change-preserved
loop-change-preserved c =
    let cs = c.args.changes.now in
    let f = c.args.folder.now in
    let i = c.loop-change.change-index in
    let was = c.loop-change.invariant in
    elim c.match-name_now.branch [
      | in-Some+in_ok-name+in-Some-2+in_ok-push-in-Some-2 w ↦
          let items = w.in_ok-push-in-Some-2.ensures.items in
          let y : w.in-Some-2.name ≡ w.in-Some.text.now = rw w.in-Some-2.is at w.in_ok-name.ensures.value in
          rw w.names-is (record {
            there = λ x has. ⊎_elim (λ old. was.there x old) (λ new. subst (λ z. (view_of cs).now.at (under f z) ≢ Absent) (sym y ∙ new) w.in-Some.ensures.some.1) (Contains-push_cases c.loop-change.names.items w.in-Some-2.name x (subst (λ l. Contains l x) items has));
            all = below_next (λ d. (x : Name) → target_of d ≡ Some (under f x) → ((view_of cs).now.at (under f x) ≡ Absent) ⊎ Contains w.push.new.self.items x) cs i c.change-item.result c.loop-change-test.true c.change-item.is
                (λ x target. inr (subst (λ l. Contains l x) (sym items) (subst (λ z. Contains (c.loop-change.names.items ++ w.in-Some-2.name ∷ []) z) (y ∙ w.in-Some.ensures.each x target) (Contains-push c.loop-change.names.items w.in-Some-2.name))))
                (λ k d less x target. ⊎_elim (λ none. inl none) (λ old. inr (subst (λ l. Contains l x) (sym items) (Contains-append_left _ _ x old))) (was.all k d less x target));
          })
      | in_default w ↦
          rw w.names-is (record {
            there = was.there;
            all = below_next (λ d. (x : Name) → target_of d ≡ Some (under f x) → ((view_of cs).now.at (under f x) ≡ Absent) ⊎ Contains c.loop-change.names.items x) cs i c.change-item.result c.loop-change-test.true c.change-item.is
                (λ x target. inl (w.in_default.ensures.each x target)) was.all;
          })
    ]

pub returns : goal.returns
returns c =
    let was = c.loop-change.invariant in
    rw c.from_vec.ensures (sorted_listing c.args.changes.now c.args.folder.now c.loop-change.names.items c.sort_unstable.new.self.items c.dedup.new.self.items was.there
    (all_listed c.args.changes.now c.args.folder.now c.loop-change.names.items (λ k d less. was.all k d (let f = c.loop-change-test.false in omega (arith, less, f))))
    c.sort_unstable.ensures.permutation c.sort_unstable.ensures.sorted c.dedup.ensures.filtered)
