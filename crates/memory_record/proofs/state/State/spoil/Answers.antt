use Rattle.std.proofs.Common.{◌≡◌, false, true, ◌∙◌}
use Rattle.memory_record.proofs.Following.{no_keys, spoiling_next, spoiling_last}
use Rattle.memory_record.proofs.state.State.spoil.Goals as goal

pub loop-inode-preserved : goal.loop-inode-preserved
loop-inode-preserved c = spoiling_next c.args.fill c.args.self.now c.loop-inode.self _ c.in-Some.inode c.in-Some.ensures.member (λ q. c.in-Some.ensures.updates.0 q) c.in_ok-spoil.ensures c.loop-inode.invariant

pub returns : goal.returns
returns c =
    let none = no_keys c.loop-inode.self.unsynced.keys (λ some. let n : false ≡ true = c.in_default.ensures.variant.1 some in cc) in
    λ v. spoiling_last c.args.fill c.args.self.now c.loop-inode.self c.pop_first.new.self v none (c.in_default.ensures.unchanged ∙ none) c.loop-inode.invariant
