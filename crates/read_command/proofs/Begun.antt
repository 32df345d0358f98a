-- What a look leaves: an answer, or a command that begins.
use Rattle.std.proofs.Common.{◌≡◌, true, false, List, ℕ, [], Some, refl, sym, ◌∙◌, ap, subst}
use Rattle.fs_trait.specs.Image.{IsTree}
use Rattle.fs_trait.specs.View.{Disk, View}
use Rattle.repo_model.specs.Objects.{Store, Stores}
use Rattle.read_command.specs.declared.command.ReadCommand.{ReadCommand}
use Rattle.read_command.specs.declared.command.ReadCommand.TheVariants.{Look, Cat, Ls, Log, Ended}
use Rattle.read_command.specs.declared.log.Log.{Log as LogTask}
use Rattle.read_command.specs.declared.look.Ask.{Ask}
use Rattle.read_command.specs.declared.look.Ask.TheVariants as ask
use Rattle.read_command.specs.declared.look.Look as look
use Rattle.read_command.specs.Asked.{asked}
use Rattle.read_command.specs.CatSteps.{CatKnows}
use Rattle.read_command.specs.Chains.{IsChain}
use Rattle.read_command.specs.Commands.{Knows, read_leaves, turn_of}
use Rattle.read_command.specs.LookSteps.{BeginsBy, LookTells}
use Rattle.read_command.specs.LsSteps.{LsKnows}

no_rows : (S : Store) (commit next : List ℕ) → next ≡ commit → IsChain S commit [] next
unfolding IsChain
no_rows S commit next is = is

begins_anew : (a : Ask) (l x : look.Look) → BeginsBy a l (Look x) → ⊥
begins_anew (ask.Cat path) l x begins = begins
begins_anew (ask.Ls path) l x begins = begins
begins_anew ask.Log l x begins = begins

module _ (d : Disk) (l : look.Look) where
  abbrev Goes : ReadCommand → Type 0
  Goes t = (asked t ≡ asked (Look l)) × Knows (Stores d) t

  begun : (a : Ask) → a ≡ l.ask → (t : ReadCommand) → BeginsBy a l t → Goes t
  begun (ask.Cat path) is (Cat c) b = (ap (λ x. asked (Cat x)) b ∙ ap (λ x. Some (record { limits = l.limits; commit = l.commit; ask = x })) is, subst (CatKnows (Stores d)) (sym b) tt)
  begun (ask.Cat path) is (Look x) b = absurd b
  begun (ask.Cat path) is (Ls x) b = absurd b
  begun (ask.Cat path) is (Log x) b = absurd b
  begun (ask.Cat path) is (Ended x) b = absurd b
  begun (ask.Ls path) is (Ls s) b = (ap (λ x. asked (Ls x)) b ∙ ap (λ x. Some (record { limits = l.limits; commit = l.commit; ask = x })) is, subst (LsKnows (Stores d)) (sym b) (λ begun. absurd (let n : false ≡ true = begun in cc)))
  begun (ask.Ls path) is (Look x) b = absurd b
  begun (ask.Ls path) is (Cat x) b = absurd b
  begun (ask.Ls path) is (Log x) b = absurd b
  begun (ask.Ls path) is (Ended x) b = absurd b
  begun ask.Log is (Log g) (limits, commit, rows, next) = (
    ap (λ x. Some (record { limits = x; commit = g.commit; ask = ask.Log })) limits
        ∙ ap (λ x. Some (record { limits = l.limits; commit = x; ask = ask.Log })) commit
        ∙ ap (λ x. Some (record { limits = l.limits; commit = l.commit; ask = x })) is,
    subst (λ r. IsChain (Stores d) g.commit r g.next) (sym rows) (no_rows (Stores d) g.commit g.next (next ∙ sym commit)),
  )
  begun ask.Log is (Look x) b = absurd b
  begun ask.Log is (Cat x) b = absurd b
  begun ask.Log is (Ls x) b = absurd b
  begun ask.Log is (Ended x) b = absurd b

-- a log begins without rows
no_rows_yet : (a : Ask) (l : look.Look) (g : LogTask) → BeginsBy a l (Log g) → g.rows.items ≡ []
no_rows_yet ask.Log l g begins = begins.2
no_rows_yet (ask.Cat path) l g begins = absurd begins
no_rows_yet (ask.Ls path) l g begins = absurd begins

pub look_leaves : (l : look.Look) (v : View) (next : ReadCommand) → IsTree v.now → LookTells v.now l next → read_leaves (Look l) (turn_of next) next v v
look_leaves l v (Ended a) tree tells = (refl, a, refl, tells)
look_leaves l v (Look x) tree tells = absurd (begins_anew l.ask l x tells.0)
look_leaves l v (Cat x) tree tells = let goes = begun v.now l l.ask refl (Cat x) tells.0 in (refl, goes.0, goes.1, tt, (tells.1, tree), tt)
look_leaves l v (Ls x) tree tells = let goes = begun v.now l l.ask refl (Ls x) tells.0 in (refl, goes.0, goes.1, tt, (tells.1, tree), tt)
look_leaves l v (Log x) tree tells = let goes = begun v.now l l.ask refl (Log x) tells.0 in (refl, goes.0, goes.1, tt, (tells.1, tree), no_rows_yet l.ask l x tells.0)
