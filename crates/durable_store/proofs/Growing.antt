-- Names grow only where something is written.
use Rattle.std.proofs.Common.{◌≡◌, subst, List}
use Rattle.ost_types.specs.declared.object.ObjName.{ObjName}
use Rattle.ost_types.specs.Path.{Path}
use Rattle.fs_trait.specs.View.{View}
use Rattle.fs_trait.specs.Seen.{MayBe, Seen}
use Rattle.repo_model.specs.Objects.{path_of}
use Rattle.durable_store.specs.Standing.{AreListed}
use Rattle.durable_store.specs.Writing.{Adds}

pub adds_still : (W : Path → Seen → Type 0) (v w : View) (names next : List ObjName) → AreListed names v → w ≡ v → Adds W w names next → ⊥
adds_still W v w names next listed same adds = adds.new (listed.all adds.name adds.sum adds.shown (subst (λ (x : View). MayBe x (path_of adds.name) adds.shown) same adds.may) adds.there)
