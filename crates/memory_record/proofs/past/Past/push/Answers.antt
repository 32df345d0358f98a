use Rattle.std.proofs.Common.{◌≡◌, ◌∙◌, ap, get_or, length, arith}
use Rattle.memory_record.proofs.Following.{tied_push}
use Rattle.memory_record.proofs.past.Past.push.Goals as goal

pub invariant_of-self-2 : goal.invariant_of-self-2
invariant_of-self-2 c = record { tied = tied_push c.args.self.now.changes.items c.push.new.self.items c.args.change c.index.result.now c.args.self.now.state c.take.result c.followed.result c.in_ok-push.ensures.items (let e : c.len-count.result ≡ length c.args.self.now.changes.items = omega (arith, c.len-count.ensures, c.args.self.now.changes.ok) in c.index.ensures ∙ ap (λ k. get_or c.push.new.self.items k c.index.result.now) e) c.take.ensures.value c.followed.ensures c.args.self.now.tied }
