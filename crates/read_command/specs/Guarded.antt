-- What a command knows stays so while its commits are pinned, whoever removes objects.
use Rattle.std.proofs.Common.{◌≡◌, ◌≢◌, inl, ℕ, List, [], ◌∷◌, refl}
use Rattle.std.specs.List.{AllByRecursion}
use Rattle.ost_types.specs.declared.object.Kind.TheVariants as kind
use Rattle.ost_types.specs.declared.object.ObjName.{ObjName}
use Rattle.fs_trait.specs.View.{View}
use Rattle.fs_trait.specs.Change.{Writes}
use Rattle.repo_model.specs.Objects.{Store, Stores}
use Rattle.repo_model.specs.Trees.{name_of}
use Rattle.repo_model.proofs.Stored.{stores_map}
use Rattle.reach.specs.Reach.{ObjNames, Reach, Refers}
use Rattle.reach.specs.Removed.{Part}
use Rattle.reach.proofs.Parts.{tree_part}
use Rattle.part_reach.proofs.Readings.{reading_part}
use Rattle.script.specs.declared.rows.LogRow.{LogRow}
use Rattle.rely_guarantee.specs.Books.{Books}
use Rattle.rely_guarantee.specs.Rely.{Guarantee}
use Rattle.rely_guarantee.specs.Removing.{IsGuarded}
use Rattle.rely_guarantee.proofs.Removing.{guarded_stays, pinned_guards}
use Rattle.ref_command.specs.Pins.{IsPinned}
use Rattle.read_command.specs.declared.cat.Cat as cat
use Rattle.read_command.specs.declared.cat.Place.{Place}
use Rattle.read_command.specs.declared.cat.Place.TheVariants as place
use Rattle.read_command.specs.declared.command.ReadCommand.{ReadCommand}
use Rattle.read_command.specs.declared.command.ReadCommand.TheVariants.{Look, Cat, Ls, Log, Ended}
use Rattle.read_command.specs.CatSteps.{KnowsAt}
use Rattle.read_command.specs.Commands.{ArePinned, Knows}
use Rattle.read_command.specs.Kept.{knows_up}
use Rattle.read_command.specs.Parts.{chain_part, way_part}

-- what is known of the part that is kept
module _ (S : Store) (keep : ObjNames) (closed : (o next : ObjName) → keep o → Refers S o next → keep next) where
  cat_part : (at : Place) (c : cat.Cat) → keep (name_of kind.Commit c.commit) → KnowsAt at S c → KnowsAt at (Part S keep) c
  cat_part place.Commit c k knows = knows
  cat_part (place.Folder tree meta depth) c k knows = record {
    deep = knows.deep;
    parts = knows.parts;
    here = record { bytes = knows.here.bytes; stored = (knows.here.stored, k); reads = knows.here.reads };
    way = way_part S keep closed knows.parts.tree knows.parts.meta _ tree meta (closed (name_of kind.Commit c.commit) (name_of kind.DirTree knows.parts.tree) k (inl (knows.parts, refl, knows.here, inl refl))) knows.way;
  }
  cat_part (place.File sum) c k knows = tree_part S keep closed c.commit c.path _ k knows

-- An act for another lane.
module _ (b : Books) (v w : View) (actor lane : ℕ) (writes : Writes (Guarantee b v actor lane) v w) (mine : ℕ) (other : mine ≢ lane) where
  abbrev keep : ObjNames
  keep = IsGuarded b v lane

  closed : (o next : ObjName) → keep o → Refers (Stores v.now) o next → keep next
  closed o next at refers = Reach.onward o next at refers

  pub held : (commit : List ℕ) → IsPinned mine b commit → keep (name_of kind.Commit commit)
  held commit pin = pinned_guards b v w actor lane writes mine other (name_of kind.Commit commit) pin (name_of kind.Commit commit) (Reach.start (name_of kind.Commit commit) refl)

  rows_held : (rows : List LogRow) → AllByRecursion (λ (r : LogRow). IsPinned mine b r.commit) rows → AllByRecursion (λ (r : LogRow). keep (name_of kind.Commit r.commit)) rows
  rows_held [] all = tt
  rows_held (r ∷ rows) all = (held r.commit all.0, rows_held rows all.1)

  known_part : (t : ReadCommand) → ArePinned t mine b → Knows (Stores v.now) t → Knows (Part (Stores v.now) keep) t
  known_part (Look l) pin knows = tt
  known_part (Cat c) pin knows = cat_part (Stores v.now) keep closed c.place c (held c.commit pin) knows
  known_part (Ls s) pin knows = λ begun. reading_part (Stores v.now) keep closed s.task (held s.task.commit pin) (knows begun)
  known_part (Log g) pin knows = chain_part (Stores v.now) keep closed g.commit g.rows.items g.next (rows_held g.rows.items pin.1) knows
  known_part (Ended a) pin knows = knows

  -- what is kept stays
  pub part_stays : (o : ObjName) (c : List ℕ) → Part (Stores v.now) keep o c → Stores w.now o c
  part_stays o c has = guarded_stays b v w actor lane writes o c has.1 has.0

  pub knows_kept : (t : ReadCommand) → ArePinned t mine b → Knows (Stores v.now) t → Knows (Stores w.now) t
  knows_kept t pin knows = knows_up (Part (Stores v.now) keep) (Stores w.now) (stores_map w.now) part_stays t (known_part t pin knows)
