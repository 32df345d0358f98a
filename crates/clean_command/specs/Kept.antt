-- What is known stays so while others act.
use Rattle.std.proofs.Common.{◌≢◌, ⊎_elim, ℕ, List, sym, ◌∙◌}
use Rattle.ost_types.specs.Path.{Path}
use Rattle.fs_trait.specs.Change.{Writes}
use Rattle.fs_trait.specs.Seen.{Seen}
use Rattle.fs_trait.specs.View.{View}
use Rattle.fs_trait.proofs.Facts.{shows_kept}
use Rattle.repo_layout.specs.BootPaths.{loader_path}
use Rattle.boot_model.specs.declared.item.DepId.{DepId}
use Rattle.deploy_clean.specs.Cleaning.{Cleaning}
use Rattle.deploy_clean.specs.Steps.{Goes}
use Rattle.deploy_clean.proofs.Keeping.{clean_kept, clean_spared}
use Rattle.durable_list.specs.Standing.{HasLoader}
use Rattle.durable_deployments.specs.Bounds.{AreBounded}
use Rattle.rely_guarantee.specs.Books.{Books, Keeps}
use Rattle.rely_guarantee.specs.Rely.{Guarantee, Interference}
use Rattle.clean_command.specs.declared.command.CleanCommand.{CleanCommand}
use Rattle.clean_command.specs.declared.phase.Phase.{Phase}
use Rattle.clean_command.specs.declared.phase.Phase.TheVariants as phase
use Rattle.clean_command.specs.Facts.{Facts, IsCleaning, IsLooking, KnownIn}
use Rattle.clean_command.specs.Places.{loader_aside, others_aside}

-- ---- what the lane gains is no harm

looking_gains : (ids : List DepId) (lane : ℕ) (v : View) (b b' : Books) → Keeps lane b b' → IsLooking ids lane v b → IsLooking ids lane v b'
looking_gains ids lane v b b' keeps was = record { sysroot = keeps.sysroot was.sysroot; listed = keeps.listed ∙ was.listed; bounded = was.bounded }

cleaning_gains : (c : Cleaning) (lane : ℕ) (v : View) (b b' : Books) → Keeps lane b b' → IsCleaning c lane v b → IsCleaning c lane v b'
cleaning_gains c lane v b b' keeps was = record {
  sysroot = keeps.sysroot was.sysroot;
  listed = keeps.listed ∙ was.listed;
  needs = was.needs;
  bounded = was.bounded;
  selected = was.selected;
}

known_gains : (p : Phase) (lane : ℕ) (v : View) (b b' : Books) → Keeps lane b b' → KnownIn p lane v b → KnownIn p lane v b'
known_gains phase.Waiting lane v b b' keeps was = tt
known_gains phase.Unlearned lane v b b' keeps was = keeps.sysroot was
known_gains (phase.Looking l) lane v b b' keeps was = looking_gains l.items lane v b b' keeps was
known_gains (phase.Cleaning c) lane v b b' keeps was = cleaning_gains c lane v b b' keeps was
known_gains phase.Over lane v b b' keeps was = was

pub facts_gain : (lane : ℕ) (t : CleanCommand) (v : View) (b b' : Books) → Keeps lane b b' → Facts lane t v b → Facts lane t v b'
facts_gain lane t v b b' keeps f = record { mine = f.mine; known = known_gains t.phase lane v b b' keeps f.known }

-- ---- over the acts of others

pub bounded_kept : (b : Books) (v w : View) (actor lane : ℕ) → Writes (Guarantee b v actor lane) v w → AreBounded v → AreBounded w
bounded_kept b v w actor lane writes was p s lies may some = ⊎_elim (λ before. was p s lies before some) (λ m. m.fits.bounds some) (writes.only p s may)

module _ (actor lane mine : ℕ) (v w : View) (b b' : Books) (other : mine ≢ lane) (does : Interference actor lane v b w b') where
  looking_kept : (ids : List DepId) → IsLooking ids mine v b → IsLooking ids mine w b'
  looking_kept ids was = record {
    sysroot = does.books.sysroot mine other was.sysroot;
    listed = does.listed mine other was.sysroot ∙ was.listed;
    bounded = bounded_kept b v w actor lane does.writes was.bounded;
  }

  module _ (c : Cleaning) (was : IsCleaning c mine v b) where
    aside : (p : Path) (s : Seen) → Guarantee b v actor lane p s → ¬ (Goes c.listed p)
    aside p s may goes = others_aside b v actor lane mine c.listed p s was.sysroot other goes may

    selected_kept : HasLoader w.now
    selected_kept none =
        was.selected (sym (shows_kept (Guarantee b v actor lane) v w loader_path does.writes (λ s may. loader_aside b v actor lane mine s was.sysroot other may)) ∙ none)

    cleaning_kept : IsCleaning c mine w b'
    cleaning_kept = record {
      sysroot = does.books.sysroot mine other was.sysroot;
      listed = does.listed mine other was.sysroot ∙ was.listed;
      needs = clean_kept (Guarantee b v actor lane) c v w does.writes (clean_spared (Guarantee b v actor lane) c was.needs.made aside) was.needs;
      bounded = bounded_kept b v w actor lane does.writes was.bounded;
      selected = selected_kept;
    }

  known_kept : (p : Phase) → KnownIn p mine v b → KnownIn p mine w b'
  known_kept phase.Waiting was = tt
  known_kept phase.Unlearned was = does.books.sysroot mine other was
  known_kept (phase.Looking l) was = looking_kept l.items was
  known_kept (phase.Cleaning c) was = cleaning_kept c was
  known_kept phase.Over was = was

  pub facts_kept : (t : CleanCommand) → Facts mine t v b → Facts mine t w b'
  facts_kept t f = record { mine = f.mine; known = known_kept t.phase f.known }
