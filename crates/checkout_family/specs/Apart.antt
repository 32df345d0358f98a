-- A checkout writes nothing of the store.
use Rattle.std.proofs.Common.{◌≡◌, ℕ, List, sym, ◌∙◌}
use Rattle.fs_trait.specs.Seen.{Seen}
use Rattle.fs_trait.specs.View.{View}
use Rattle.repo_layout.specs.Paths.{config_path, mark_path, ref_path}
use Rattle.repo_layout.specs.Place.{Checkout, Config, Mark, Ref, place}
use Rattle.repo_layout.specs.RefFile.{IsSum}
use Rattle.repo_layout.proofs.Places.{place-config, place-mark, place-ref}
use Rattle.checkout_command.specs.declared.command.CheckoutCommand.{CheckoutCommand}
use Rattle.checkout_command.specs.Commands.{checkout_writes}
use Rattle.checkout_command.proofs.Writing.{no_objects, writes_inside}
use Rattle.durable_store.specs.Writing.{IsApart}

module _ (actor : ℕ) (t : CheckoutCommand) (v : View) where
  no_mark : (commit : List ℕ) → IsSum commit → (s : Seen) → checkout_writes actor t v (mark_path commit) s → ⊥
  no_mark commit sum s wrote = let k = writes_inside actor t v (mark_path commit) s wrote in let no : Mark commit ≡ Checkout k.0 k.1 = sym (place-mark commit sum) ∙ k.3 in cc

  no_ref : (name : List ℕ) (s : Seen) → checkout_writes actor t v (ref_path name) s → ⊥
  no_ref name s wrote = let k = writes_inside actor t v (ref_path name) s wrote in let no : Ref name ≡ Checkout k.0 k.1 = sym (place-ref name) ∙ k.3 in cc

  no_config : (s : Seen) → checkout_writes actor t v config_path s → ⊥
  no_config s wrote = let k = writes_inside actor t v config_path s wrote in let no : Config ≡ Checkout k.0 k.1 = sym place-config ∙ k.3 in cc

  pub writes_apart : IsApart (checkout_writes actor t v)
  writes_apart = record {
    objects = λ name sum s wrote. no_objects actor t v name s sum wrote;
    marks = no_mark;
    refs = no_ref;
    config = no_config;
  }
