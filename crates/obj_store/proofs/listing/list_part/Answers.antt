use Rattle.std.proofs.Common.{◌≡◌, ◌∷◌, [], ap, subst, Err}
use Rattle.std.specs.Prelude.{take}
use Rattle.fs_trait.specs.Effect.{Answered, IsListing, no_folder}
use Rattle.obj_store.proofs.ListLemmas.{listed, unlisted_result}
use Rattle.obj_store.proofs.listing.list_part.Goals as goal

pub returns-in-Ok-clause-told : goal.returns-in-Ok-clause-told
returns-in-Ok-clause-told g c = λ v told.
    let begins : take 1 c.from_bytes.result ≡ c.args.first ∷ [] = ap (take 1) c.from_bytes.ensures in
    listed v.now (g.met.F.Fs.tree c.args.fs.now v told) c.args.first c.from_bytes.result begins c.in-Ok.names _ (subst (λ p. IsListing v.now p c.in-Ok.names) c.in_ok-folder.ensures (c.in-Ok.ensures.answer v told).1) c.in_ok-objects_in-in-Ok.ensures

pub returns-clause-told : goal.returns-clause-told
returns-clause-told g c = λ v told.
    let begins : take 1 c.from_bytes.result ≡ c.args.first ∷ [] = ap (take 1) c.from_bytes.ensures in
    let answer = c.in-Err.ensures.answer v told in
    unlisted_result v.now (g.met.F.Fs.tree c.args.fs.now v told) c.args.first c.from_bytes.result begins (IsListing v.now c.in_ok-folder.folder) c.in-Err.refusal
    (subst (λ p. Answered (no_folder p v.now) (IsListing v.now c.in_ok-folder.folder) (Err c.in-Err.refusal)) c.in_ok-folder.ensures answer) (λ t. t.items) _ c.unlisted.ensures.none
