use Rattle.std.proofs.Common.{ap}
use Rattle.rely_guarantee.proofs.Openings.{sound_new}
use Rattle.rely_guarantee.proofs.books.Base.new.Goals as goal

pub returns-clause-sound : goal.returns-clause-sound
returns-clause-sound g c =
    let e = c.new.ensures.fresh in
    sound_new g.F.Fs.view g.F.Fs.clock g.F.Fs.spare g.F.Fs.was g.met.F.Fs.tree _ _ _ _
    (ap (λ b. b.exclusive) e) (ap (λ b. b.turn) e) c.new.ensures.history c.new.ensures.claims (ap (λ b. b.gone) e) (ap (λ b. b.pending) e) (ap (λ b. b.owed) e) (ap (λ b. b.opened) e) (ap (λ b. b.start.refs.items) e)
    c.requires.past c.requires.opening c.requires.since
