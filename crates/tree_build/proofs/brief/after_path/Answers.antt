use Rattle.std.proofs.Common.{◌≡◌, ◌<◌, ◌+◌, length, take, rules, sym, ap, subst, arith}
use Rattle.ost_types.specs.Path.{joined}
use Rattle.tree_build.proofs.Rooms.{path_more, path_over}
use Rattle.tree_build.proofs.brief.after_path.Goals as goal

pub loop-name-init : goal.loop-name-init
unfolding joined
loop-name-init c = search rules

pub returns-in_err-room : goal.returns-in_err-room
returns-in_err-room c =
    let n = c.loop-name.name-index in
    let same = c.names-name-items.ensures.value in
    let p = c.names-name-items.result.now in
    let so_far = subst (λ q. c.args.room ≡ length (joined (take n q)) + c.loop-name.room) (sym same) c.loop-name.invariant in
    let bytes = ap length c.as_slice.ensures.value in
    let over : c.loop-name.room < 1 + length c.name-item.result = let o = c.in_err-room.ensures in omega (arith, o, bytes) in
    rw c.from_residual.ensures (subst (λ q. c.args.room < length (joined q)) same (path_over p n c.name-item.result c.args.room c.loop-name.room c.loop-name-test.true c.name-item.is so_far over))

pub loop-name-preserved : goal.loop-name-preserved
loop-name-preserved c =
    let n = c.loop-name.name-index in
    let same = c.names-name-items.ensures.value in
    let p = c.names-name-items.result.now in
    let so_far = subst (λ q. c.args.room ≡ length (joined (take n q)) + c.loop-name.room) (sym same) c.loop-name.invariant in
    let bytes = ap length c.as_slice.ensures.value in
    let more = path_more p n c.name-item.result c.loop-name-test.true c.name-item.is in
    let left = c.in_ok-room.ensures in
    subst (λ q. c.args.room ≡ length (joined (take (n + 1) q)) + c.in_ok-room.room) same (omega (arith, so_far, bytes, more, left))
