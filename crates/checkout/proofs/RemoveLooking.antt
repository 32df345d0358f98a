-- What a step that looks at a path is refused for, and what it leaves to the next.
use Rattle.std.proofs.Common.{◌≡◌, ℕ, inl, inr, refl, sym, ◌∙◌, ap, subst, List, reverse, length, ◌<◌, arith, [], ◌∷◌, Option}
use Rattle.ost_types.specs.Path.{Name, Path, IsPath, under}
use Rattle.fs_trait.specs.declared.types.FsErr.{FsErr}
use Rattle.fs_trait.specs.declared.types.FsErr.TheVariants.{Failed, Exists, Missing, NotFolder, NotEmpty, NoMemory}
use Rattle.fs_trait.specs.View.{View}
use Rattle.fs_trait.specs.Image.{Told}
use Rattle.checkout.specs.declared.remove.look.Found.{Found}
use Rattle.checkout.specs.declared.remove.look.Found.TheVariants as found
use Rattle.checkout.specs.declared.remove.phase.Phase.{Phase}
use Rattle.checkout.specs.declared.remove.phase.Phase.TheVariants.{Look, Inside, Ended}
use Rattle.checkout.specs.RemoveFolder.{Opened}
use Rattle.checkout.specs.Remove.{Removing, Looks, Closes, act, act_in, act_of, entered, passed}
use Rattle.checkout.specs.RemoveSteps.{Finds, IsBarredIn, IsFar, Needs, Refuses}
use Rattle.checkout.proofs.RemoveKnown.{Gone, gone_named, gone_vacant}
use Rattle.checkout.proofs.RemoveNeeds.{far_there, needs_passed, needs_entered}

barred_refuses_in : (ph : Phase) (at : Path) (outer : List Opened) (room : ℕ) (v : View) → Needs (record { at = at; phase = ph; outer = outer; room = room }) v
    → (e : FsErr) → IsBarredIn ph e → Refuses (record { at = at; phase = ph; outer = outer; room = room }) v e
barred_refuses_in Look at outer room v needs Failed barred = absurd barred
barred_refuses_in Look at outer room v needs NoMemory barred = tt
barred_refuses_in Look at outer room v needs Exists barred = absurd barred
barred_refuses_in Look at outer room v needs Missing barred = absurd barred
barred_refuses_in Look at outer room v needs NotFolder barred = absurd barred
barred_refuses_in Look at outer room v needs NotEmpty barred = absurd barred
barred_refuses_in Ended at outer room v needs Failed barred = absurd barred
barred_refuses_in Ended at outer room v needs NoMemory barred = tt
barred_refuses_in Ended at outer room v needs Exists barred = absurd barred
barred_refuses_in Ended at outer room v needs Missing barred = absurd barred
barred_refuses_in Ended at outer room v needs NotFolder barred = absurd barred
barred_refuses_in Ended at outer room v needs NotEmpty barred = absurd barred
barred_refuses_in (Inside f) at outer room v needs Failed barred = absurd barred
barred_refuses_in (Inside f) at outer room v needs NoMemory barred = tt
barred_refuses_in (Inside f) at outer room v needs Exists barred = absurd barred
barred_refuses_in (Inside f) at outer room v needs Missing barred = absurd barred
barred_refuses_in (Inside f) at outer room v needs NotFolder barred = absurd barred
barred_refuses_in (Inside f) at outer room v needs NotEmpty (p, is, none) = subst (IsFar v.now) (sym is) (far_there f at outer room v p needs is none, none)

pub barred_refuses : (t : Removing) (v : View) → Needs t v → (e : FsErr) → IsBarredIn t.phase e → Refuses t v e
barred_refuses t v needs e barred = barred_refuses_in t.phase t.at t.outer t.room v needs e barred

finds_gone : (p : Path) (v w : View) → IsPath p → Finds p v w found.Nothing → Gone p v.now w.now
finds_gone p v w path (inl (vacant, same)) = subst (λ (x : View). Gone p v.now x.now) (sym same) (gone_vacant v.now p path vacant)
finds_gone p v w path (inr (leaf, is)) = subst (λ (x : View). Gone p v.now x.now) (sym is) (gone_named v p path)

pub nothing_needs : (t new : Removing) (v : View) (p : Path) (f : Found) → f ≡ found.Nothing → new ≡ passed t → IsPath p → act t ≡ Looks p → Needs t v
    → (view : Option View) → Told view (λ w. Finds p v w f) → Told view (λ w. Needs new w)
nothing_needs t new v p f none after path is needs view told = (
  told.0,
  told.1,
  subst (λ (n : Removing). Needs n told.0) (sym after) (needs_passed t v told.0 p is (finds_gone p v told.0 path (subst (Finds p v told.0) none told.2)) needs),
)

pub folder_needs : (t new : Removing) (v : View) (p : Path) (f : Found) (names : List Name) → f ≡ found.Folder names → new ≡ entered p (reverse names) t → act t ≡ Looks p → Needs t v
    → (view : Option View) → Told view (λ w. Finds p v w f) → Told view (λ w. Needs new w)
folder_needs t new v p f names is_folder_ after is needs view told =
    let finds : Finds p v told.0 (found.Folder names) = subst (Finds p v told.0) is_folder_ told.2 in (
      told.0,
      told.1,
      subst (λ (n : Removing). Needs n told.0) (sym after) (subst (Needs (entered p (reverse names) t)) (sym finds.0) (needs_entered t v p names is finds.1 finds.2 needs)),
    )

-- which step comes next
pub act_look : (t : Removing) → t.phase ≡ Look → (p : Path) × (act t ≡ Looks p)
act_look t is = (t.at, ap (λ ph. act_in ph t.at) is)

some_name : (f : Path) (names : List Name) → 0 < length names → (p : Path) × (act_of f names ≡ Looks p)
some_name f [] some = absurd (omega (arith, some))
some_name f (x ∷ names) some = (under f x, refl)

no_name : (f : Path) (names : List Name) → (0 < length names → ⊥) → (p : Path) × (act_of f names ≡ Closes p)
no_name f [] none = (f, refl)
no_name f (x ∷ names) none = absurd (none (omega arith))

pub act_name : (t : Removing) (f : Opened) → t.phase ≡ Inside f → 0 < length f.names → (p : Path) × (act t ≡ Looks p)
act_name t f is some = let n = some_name f.path f.names some in (n.0, ap (λ ph. act_in ph t.at) is ∙ n.1)

pub act_close : (t : Removing) (f : Opened) → t.phase ≡ Inside f → (0 < length f.names → ⊥) → (p : Path) × (act t ≡ Closes p)
act_close t f is none = let n = no_name f.path f.names none in (n.0, ap (λ ph. act_in ph t.at) is ∙ n.1)
