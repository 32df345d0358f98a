-- Where a checkout writes.
use Rattle.std.proofs.Common.{◌≡◌, ◌∷◌, ◌++◌, ⊎_elim, ℕ, [], codes, drop, refl, sym, ◌∙◌, ap, subst}
use Rattle.ost_types.specs.declared.object.ObjName.{ObjName}
use Rattle.ost_types.specs.Path.{Name, Path}
use Rattle.fs_trait.specs.Change.{Writes}
use Rattle.fs_trait.specs.Seen.{Seen, NotDirectory, shows}
use Rattle.fs_trait.specs.View.{View}
use Rattle.repo_layout.specs.BootPaths.{checkout_path}
use Rattle.repo_layout.specs.Paths.{stage_path}
use Rattle.repo_layout.specs.Place.{Checkout, Object, place}
use Rattle.repo_layout.specs.RefFile.{IsSum}
use Rattle.repo_layout.proofs.Places.{place-object}
use Rattle.repo_model.specs.Objects.{path_of}
use Rattle.rely_guarantee.specs.Laws.{Claim}
use Rattle.rely_guarantee.specs.Rely.{IsBoot}
use Rattle.ref_command.specs.Facts.{StagingPathFree}
use Rattle.checkout_command.specs.declared.command.CheckoutCommand.{CheckoutCommand}
use Rattle.checkout_command.specs.declared.command.CheckoutCommand.TheVariants as command
use Rattle.checkout_command.specs.declared.made.Made.{Made}
use Rattle.checkout_command.specs.declared.made.Made.TheVariants as made
use Rattle.checkout_command.specs.declared.make.Make.{Make}
use Rattle.checkout_command.specs.Asked.{HasName, asked}
use Rattle.checkout_command.specs.Commands.{checkout_kind, checkout_writes}
use Rattle.checkout_command.specs.Duties.{lies_in, place_in}
use Rattle.checkout_command.specs.MakeSteps.{make_kind, writes_by}

-- in the checkout of the name that was asked for
pub writes_inside : (actor : ℕ) (t : CheckoutCommand) (v : View) (p : Path) (s : Seen) → checkout_writes actor t v p s → (name : Name) × (rest : Path) × HasName name (asked t) × (place p ≡ Checkout name rest)
writes_inside actor (command.Look r) v p s a = absurd a
writes_inside actor (command.Read r) v p s a = absurd a
writes_inside actor (command.Make m) v p s a = let at = place_in m.made m v p s a in (m.request.name, at.0, refl, at.1)
writes_inside actor (command.Ended x) v p s a = absurd a

pub no_objects : (actor : ℕ) (t : CheckoutCommand) (v : View) (name : ObjName) (s : Seen) → IsSum name.csum → checkout_writes actor t v (path_of name) s → ⊥
no_objects actor t v name s sum a =
    let at = writes_inside actor t v (path_of name) s a in
    let no : Object name.kind name.csum ≡ Checkout at.0 at.1 = sym (place-object name.kind name.csum sum) ∙ at.3 in
    cc

pub no_boots_written : (actor : ℕ) (t : CheckoutCommand) (v : View) (p : Path) (s : Seen) → checkout_writes actor t v p s → IsBoot (place p) → ⊥
no_boots_written actor t v p s a boot = let at = writes_inside actor t v p s a in let n : IsBoot (Checkout at.0 at.1) = subst IsBoot at.3 boot in n

-- nor where a lane stages
not_staged : (actor : ℕ) (name : Name) (rest : Path) → stage_path actor ≡ checkout_path name ++ rest → ⊥
unfolding stage_path
not_staged actor name rest e = let no : codes "ostree" ≡ codes "checkout" = ap first e in cc
  where
    first : Path → Name
    first (a ∷ p) = a
    first [] = []

lies_inside : (actor : ℕ) (t : CheckoutCommand) (v : View) (p : Path) (s : Seen) → checkout_writes actor t v p s → (name : Name) × (rest : Path) × (p ≡ checkout_path name ++ rest)
lies_inside actor (command.Look r) v p s a = absurd a
lies_inside actor (command.Read r) v p s a = absurd a
lies_inside actor (command.Make m) v p s a = let at = lies_in m.made m v p s a in (m.request.name, at.0, at.1)
lies_inside actor (command.Ended x) v p s a = absurd a

pub own_of : (actor lane : ℕ) (t : CheckoutCommand) (v w : View) → Writes (checkout_writes actor t v) v w → StagingPathFree lane v → StagingPathFree lane w
own_of actor lane t v w writes home = ⊎_elim
    (λ same. subst NotDirectory (sym same) home)
    (λ a. let at = lies_inside actor t v (stage_path lane) (shows w.now (stage_path lane)) a in absurd (not_staged lane at.0 at.1 at.2))
    (writes.now (stage_path lane))

-- ---- the folder is made by the step that claims it

abbrev second : Path → Name
second (a ∷ b ∷ p) = b
second p = []

folder_by : (k : Made) (m : Make) (v : View) (name : Name) (s : Seen) → writes_by k m v (checkout_path name) s → (make_kind k m.request.name ≡ Claim name) × (m.request.name ≡ name)
folder_by made.Nothing m v name s a = let named : m.request.name ≡ name = sym (ap second a.is) in (ap Claim named, named)
folder_by made.Part m v name s a = absurd (let no : [] ≡ a.first ∷ a.rest = ap (drop 2) a.is in cc)
folder_by made.All m v name s a = absurd a

pub makes_folder : (actor : ℕ) (t : CheckoutCommand) (v : View) (name : Name) (s : Seen) → checkout_writes actor t v (checkout_path name) s → (checkout_kind t ≡ Claim name) × HasName name (asked t)
makes_folder actor (command.Look r) v name s a = absurd a
makes_folder actor (command.Read r) v name s a = absurd a
makes_folder actor (command.Make m) v name s a = folder_by m.made m v name s a
makes_folder actor (command.Ended x) v name s a = absurd a
