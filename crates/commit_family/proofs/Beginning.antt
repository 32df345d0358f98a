-- A commit at its beginning.
use Rattle.std.proofs.Common.{◌≡◌, ◌<◌, ℕ, sym, ◌∙◌, ap, subst, arith, List, Option, None, Result, Ok, Err, IfOk}
use Rattle.ost_types.specs.declared.limits.Limits.{Limits}
use Rattle.ost_forms.specs.declared.tree_item.TreeItem.{TreeItem}
use Rattle.commit_build.specs.declared.message.Message.{Message}
use Rattle.commit_build.specs.declared.phase.Phase.TheVariants as phase
use Rattle.commit_build.specs.Committing.{Committing}
use Rattle.commit_durability.specs.Lasting.{sum_of}
use Rattle.rely_guarantee.specs.State.{SystemState, RefOf}
use Rattle.ref_book.specs.declared.book.RefBook.{RefBook}
use Rattle.ref_book.specs.Tracks.{HasEventRoom, HasRoom}
use Rattle.commit_command.specs.declared.command.CommitCommand.{CommitCommand}
use Rattle.commit_command.specs.Answers.{Begins, IsCommitOf}
use Rattle.commit_command.specs.Kinds.{commit_left}
use Rattle.command.specs.Doing.{IsFirst}
use Rattle.command.specs.Since.{begun_in}
use Rattle.commit_family.specs.declared.words.CommitWords.{CommitWords}
use Rattle.commit_family.specs.Commits.{message_in}
use Rattle.commit_family.specs.Family.{commit_doing, commit_means}
use Rattle.commit_family.specs.Pursues.{Commits, NamesIn, ReadsIn}

abbrev pub first_of : ℕ → Limits → List TreeItem → Message → Committing
first_of lane limits items message = record { actor = lane; items = items; limits = limits; message = message; made = 0; phase = phase.Check; met = None }

abbrev pub message_by : Option (List ℕ) → List ℕ → List ℕ → ℕ → Message
message_by parent subject body time = record { parent = parent; subject = subject; body = body; time = time }

module _ (limits : Limits) (lane : ℕ) (s : SystemState) (c : CommitWords) (t : CommitCommand) where
  after : IsCommitOf c.branch (first_of lane limits c.tree.items (message_in s.refs c)) t → Begins lane t → Commits limits c.branch c.tree.items (message_in s.refs c) t
  after is begins = record {
    name = is.name;
    items = ap (λ (x : Committing). x.items) is.build;
    bounds = ap (λ (x : Committing). x.limits) is.build;
    says = ap (λ (x : Committing). x.message) is.build;
    made = begins.made;
    names = subst (NamesIn c.branch (message_in s.refs c).parent c.tree.items (sum_of c.tree.items (message_in s.refs c))) (sym is.change) tt;
    reads = subst (ReadsIn c.tree.items (message_in s.refs c)) (sym is.change) tt;
  }

  pub commit_begun : (name : List ℕ) (seen : Option (List ℕ)) (items : List TreeItem) (subject body : List ℕ) (refs : RefBook)
      → IsCommitOf name (first_of lane limits items (message_by seen subject body c.time)) t → Begins lane t → name ≡ c.branch → seen ≡ s.refs (RefOf c.branch) → items ≡ c.tree.items → subject ≡ c.subject → body ≡ c.body → HasRoom refs c.branch → commit_left t < 340282366920938463463374607431768211456
      → IsFirst commit_means commit_doing lane (begun_in limits s) c refs (record { work = t })
  commit_begun name seen items subject body refs is begins named had all said told room left =
      let build : t.build ≡ first_of lane limits c.tree.items (message_in s.refs c) =
      is.build
      ∙ ap (λ x. first_of lane limits x (message_by seen subject body c.time)) all
      ∙ ap (λ x. first_of lane limits c.tree.items (message_by x subject body c.time)) had
      ∙ ap (λ x. first_of lane limits c.tree.items (message_by (s.refs (RefOf c.branch)) x body c.time)) said
      ∙ ap (λ x. first_of lane limits c.tree.items (message_by (s.refs (RefOf c.branch)) c.subject x c.time)) told in (
        begins,
        after (record { name = is.name ∙ named; build = build; objects = is.objects; refusal = is.refusal; change = is.change }) begins,
        λ e changes. subst (HasEventRoom refs) (sym changes) room,
        omega (arith, left),
      )

-- what is so of each result that is given, beside what is known of it
pub ok_with : {T E Q : Type 0} (P : T → Type 0) (r : Result T E) → IfOk r P → Q → IfOk r (λ x. P x × Q)
ok_with P (Ok x) p q = (p, q)
ok_with P (Err e) p q = tt
