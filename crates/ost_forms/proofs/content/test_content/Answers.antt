use Rattle.std.proofs.Common.{subst, ◌≡◌, true, sym}
use Rattle.ost_forms.specs.Stream.{Tells, IsFile}
use Rattle.ost_forms.proofs.FileTests.{file_read}
use Rattle.ost_forms.proofs.content.test_content.Goals as goal

pub returns-then-is_file : goal.returns-then-is_file
returns-then-is_file c =
    let is = subst (λ b. Tells (IsFile c.in_ok-header.header c.in_ok-header.content.now) b) c.if-is_file.true c.is_file.ensures in
    file_read c.in_ok-header.header c.in_ok-header.content.now _ _ c.in_ok-header.ensures.0 c.in_ok-header.ensures.1 c.in_ok-header.ensures.2 is
