-- No list that may boot is written to, nor one of its deployments: while deployments go, no list boots but the one that lasts.
use Rattle.std.proofs.Common.{◌≡◌, ⊎_elim, ℕ, List, Option, Some, None, Contains, refl, sym, ◌∙◌}
use Rattle.ost_types.specs.Path.{Path}
use Rattle.fs_trait.specs.Seen.{Seen}
use Rattle.fs_trait.specs.View.{Disk, View}
use Rattle.boot_model.specs.declared.item.DepId.{DepId}
use Rattle.boot_read.specs.declared.row.BootRow.{BootRow}
use Rattle.durable_list.specs.Standing as list
use Rattle.durable_list.specs.Standing.{ids_of}
use Rattle.durable_deployments.specs.Standing as deployment
use Rattle.rely_guarantee.specs.declared.books.Pending.{Pending}
use Rattle.rely_guarantee.specs.Books.{Books, listed_in}
use Rattle.rely_guarantee.specs.Laws.{Holds}
use Rattle.rely_guarantee.specs.State.{list_in}
use Rattle.clean_command.specs.declared.command.CleanCommand.{CleanCommand}
use Rattle.clean_command.specs.Commands.{clean_kind, clean_writes}
use Rattle.clean_command.specs.Facts.{clean_facts}
use Rattle.clean_command.proofs.Sparing.{written_alone, written_off_deployment, written_off_list}
use Rattle.command.specs.MayBoot.{MayBoot, coming_of}

none_comes : (o : Option Pending) (ids : List DepId) → ((q : Pending) → o ≡ Some q → list_in q.event ≡ None) → coming_of o ≡ Some ids → ⊥
none_comes None ids alone comes = cc
none_comes (Some q) ids alone comes = let no : None ≡ Some ids = sym (alone q refl) ∙ comes in cc

module _ (actor lane : ℕ) (t : CleanCommand) (v : View) (b : Books) (base : Disk) (rows : List BootRow) (p : Path) (s : Seen) (f : clean_facts lane t v b) (holds : Holds (clean_kind t) lane b) (may : MayBoot b v base rows) (write : clean_writes actor t v p s) where
  lasts : listed_in b ≡ ids_of rows
  lasts = ⊎_elim
      (λ is. is)
      (λ comes. absurd (none_comes b.pending (ids_of rows) (λ q shown. written_alone actor lane t v b p s f write q holds may.relists shown) comes))
      may.listed

  pub off_list : ¬ (list.IsOnTheWay base rows p)
  off_list = written_off_list actor lane t v b p s f write base rows lasts may.are

  pub off_deployment : (row : BootRow) → Contains rows row → ¬ (deployment.IsOnTheWay row.id row.bootcsum p)
  off_deployment row among = written_off_deployment actor lane t v b p s f write base rows row lasts may.are among
