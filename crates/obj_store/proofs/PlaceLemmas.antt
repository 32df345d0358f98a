-- Objects of one path have one name.
use Rattle.std.proofs.Common.{◌≡◌, ◌∙◌, ap}
use Rattle.ost_types.specs.declared.object.ObjName.{ObjName}
use Rattle.repo_layout.specs.RefFile.{IsSum}
use Rattle.repo_layout.proofs.Places.{object_path-injective}
use Rattle.repo_model.specs.Objects.{path_of}

pub one_name : (a b : ObjName) → IsSum a.csum → IsSum b.csum → path_of a ≡ path_of b → a ≡ b
one_name a b is also e =
    let same = object_path-injective a.kind b.kind a.csum b.csum is also e in
    ap (λ k. record { csum = a.csum; kind = k }) same.0 ∙ ap (λ c. record { csum = c; kind = b.kind }) same.1
