use Rattle.std.proofs.Common.{◌≡◌, ◌++◌, ◌-◌, ◌∙◌, ap, subst, arith, take}
use Rattle.std.proofs.lemmas.Result.{err_from_is_err_and}
use Rattle.sha2.specs.Hashers.{Holds256}
use Rattle.fs_trait.specs.Effect.{inode_of, part}
use Rattle.fs_trait.proofs.Quiet.{IsQuiet-refl, IsQuiet-trans}
use Rattle.obj_store.proofs.LongFiles.{all_taken, part_refused, piece_on}
use Rattle.obj_store.proofs.too_long.sum_of_parts.Goals as goal

pub parts-init : goal.parts-init
parts-init g c = record {
  holds = λ v told. c.new-hasher.ensures;
  within = omega arith;
  quiet = IsQuiet-refl _ _ _;
  room = omega arith;
  faults = omega arith;
}

pub parts-preserved : goal.parts-preserved
parts-preserved g c =
    let i = c.parts.invariant in
    record {
      holds = λ v told.
          let bytes = v.now.bytes (inode_of (v.now.at c.args.at.now)) in
          let read = c.in_ok-part.ensures.answer v (i.quiet.view ∙ told) in
          let more = c.update.ensures (take c.parts.from bytes) (i.holds v told) in
          subst (Holds256 c.update.new.self) (ap (λ b. take c.parts.from bytes ++ b) (c.as_slice.ensures ∙ read.1) ∙ piece_on bytes c.parts.from c.part_end-end.result (omega (arith, c.part_end-end.ensures.grows))) more;
      within = c.part_end-end.ensures.within;
      quiet = IsQuiet-trans _ _ _ _ _ _ _ _ _ i.quiet c.read_part.ensures.quiet;
      room = omega (arith, i.room, c.read_part.ensures.keeps_room);
      faults = omega (arith, i.faults, c.read_part.ensures.cause.later);
    }

pub returns-clause-told : goal.returns-clause-told
returns-clause-told g c = λ v told.
    let i = c.parts.invariant in
    c.from_bytes.ensures ∙ c.finalize.ensures _ (subst (Holds256 c.parts.hasher) (all_taken v.now (v.now.at c.args.at.now) c.parts.from c.args.len (c.requires v told) (omega (arith, c.parts-test.false))) (i.holds v told))

pub returns-in_err-part-clause-fails : goal.returns-in_err-part-clause-fails
returns-in_err-part-clause-fails g c = λ v told.
    let i = c.parts.invariant in
    let error = err_from_is_err_and c.from_residual.result c.from_residual.ensures.1 in
    rw (error.1, error.2) (part_refused v.now c.args.at.now c.args.len (g.met.F.Fs.tree c.args.fs.now v told) (c.requires v told)
    (λ b. b ≡ part c.parts.from (c.part_end-end.result - c.parts.from) (v.now.bytes (inode_of (v.now.at c.args.at.now)))) _ (c.in_err-part.ensures.answer v (i.quiet.view ∙ told)))
