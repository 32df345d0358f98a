use Rattle.std.proofs.Common.{◌≡◌, refl, sym, ◌∙◌}
use Rattle.std.proofs.lemmas.Result.{err_from_is_err_and}
use Rattle.fs_trait.specs.Effect.{inode_of}
use Rattle.ref_store.proofs.Lookups.{shows, shows_none, looks-refused}
use Rattle.ref_store.proofs.lookup.read_commit.Goals as goal

pub returns-in-Some-clause-told : goal.returns-in-Some-clause-told
returns-in-Some-clause-told g c = λ v n told at.
    let answer = c.in_ok-bytes.ensures.answer v told in
    shows v.now c.args.at.now n at c.in_ok-bytes.bytes _ answer.1 c.in-Some.ensures.commit (sym c.as_slice.ensures ∙ c.in-Some.ensures.text)

pub returns-clause-told : goal.returns-clause-told
returns-clause-told g c = λ v n told at.
    let answer = c.in_ok-bytes.ensures.answer v told in
    shows_none v.now c.args.at.now n at c.in_ok-bytes.bytes answer.1 (λ commit sum is. c.in-None.ensures.none refl commit sum (c.as_slice.ensures ∙ is))

pub returns-in_err-bytes-clause-told : goal.returns-in_err-bytes-clause-told
returns-in_err-bytes-clause-told g c = λ v n told at.
    let error = err_from_is_err_and c.from_residual.result c.from_residual.ensures.1 in
    rw (error.1, error.2) (looks-refused v.now c.args.at.now n at (g.met.F.Fs.tree c.args.fs.now v told) (λ b. b ≡ v.now.bytes (inode_of (v.now.at c.args.at.now))) _ (c.in_err-bytes.ensures.answer v told))
