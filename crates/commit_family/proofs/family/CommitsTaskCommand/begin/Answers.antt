use Rattle.std.proofs.Common.{rules}
use Rattle.commit_family.proofs.Beginning.{commit_begun}
use Rattle.commit_family.proofs.family.CommitsTaskCommand.begin.Goals as goal

pub returns-clause-begun : goal.returns-clause-begun
returns-clause-begun c = λ s tracks listed.
    let w = c.in_ok-work in
    commit_begun c.args.limits c.args.lane s c.args.words.now w.work _ _ _ _ _ c.make_room.new.self w.ensures.commit w.ensures.begins (search rules) (c.get-seen.ensures s.refs (c.in_ok-make_room.ensures.refs s.refs tracks)) (search rules) (search rules) (search rules) c.in_ok-make_room.ensures.room w.ensures.left
