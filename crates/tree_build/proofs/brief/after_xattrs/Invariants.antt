use Rattle.std.proofs.Common.{◌≡◌, ◌+◌, take}
use Rattle.tree_build.specs.Brief.{xattrs_size}
use Rattle.tree_build.proofs.brief.after_xattrs.Given as goal

abbrev pub invariant-loop-xattr : goal.invariant-loop-xattr
invariant-loop-xattr l = l.fn.room ≡ xattrs_size (take l.xattr-index l.xattrs) + l.room
