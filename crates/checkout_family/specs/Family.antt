-- What a checkout says, and what its task is to it.
use Rattle.std.specs.Prelude.{◌≡◌, ℕ, List, Option, Some, None}
use Rattle.ost_types.specs.declared.object.ObjName.{ObjName}
use Rattle.ost_types.specs.Path.{Name}
use Rattle.fs_trait.specs.View.{View}
use Rattle.ref_command.specs.Found.{commit_name}
use Rattle.rely_guarantee.specs.Books.{Books}
use Rattle.rely_guarantee.specs.Lasting.{IsFinishedNow}
use Rattle.checkout_command.specs.declared.answer.CheckoutAnswer.{CheckoutAnswer}
use Rattle.checkout_command.specs.declared.answer.CheckoutAnswer.TheVariants as answer
use Rattle.checkout_command.specs.declared.command.CheckoutCommand.{CheckoutCommand}
use Rattle.checkout_command.specs.Answers.{Says}
use Rattle.checkout_command.specs.Asked.{asked}
use Rattle.checkout_command.specs.Commands.{HasMade, IsNew, answer_of, checkout_left}
use Rattle.checkout_command.specs.Fits.{Fits}
use Rattle.checkout_command.specs.Founded.{IsOfFinished}
use Rattle.command.specs.Doing.{Doing}
use Rattle.command.specs.LearnLaws.{learns_nothing}
use Rattle.command.specs.Meaning.{Meaning}
use Rattle.command.specs.Revisions.{IsNoRev, IsRev}
use Rattle.command.specs.Since.{Since}
use Rattle.checkout_family.specs.declared.reply.CheckoutReply.{CheckoutReply}
use Rattle.checkout_family.specs.declared.reply.CheckoutReply.TheVariants.{NoRef, Tried}
use Rattle.checkout_family.specs.declared.task.CheckoutsTask.{CheckoutsTask}
use Rattle.checkout_family.specs.declared.words.CheckoutWords.{CheckoutWords}
use Rattle.checkout_family.specs.Folder.{StaysTree}

-- the answer is one to a checkout of this name, of the commit that was named at the beginning
abbrev pub checkout_says : Since → CheckoutReply → CheckoutWords → Type 0
checkout_says since NoRef c = IsNoRev c.rev since.start.refs
checkout_says since (Tried a) c = (commit : List ℕ) × IsRev c.rev since.start.refs commit × Fits commit c.name a

-- and what it says of that commit and of the folder is so; unless it says that the commit isn't there, or has a mark, it is there without
-- one
abbrev pub checkout_shows : Since → View → CheckoutReply → CheckoutWords → Type 0
checkout_shows since v NoRef c = Unit {0}
checkout_shows since v (Tried a) c = (commit : List ℕ) × IsRev c.rev since.start.refs commit × Says v.now since.limits commit c.name a × (IsOfFinished a → IsFinishedNow v commit)

-- once it is done, the folder stays the tree of that commit
abbrev pub checkout_stays : Since → List ObjName → CheckoutReply → CheckoutWords → View → Books → Type 0
checkout_stays since out (Tried answer.Done) c v b = (commit : List ℕ) × IsRev c.rev since.start.refs commit × StaysTree since.limits out commit c.name v b
checkout_stays since out a c v b = Unit {0}

-- what is pinned: the commit that is named
abbrev pub checkout_works : Since → CheckoutWords → ObjName → Type 0
checkout_works since c name = (commit : List ℕ) × IsRev c.rev since.start.refs commit × (name ≡ commit_name commit)

-- something stands at the folder's path
abbrev pub checkout_finds : CheckoutReply → CheckoutWords → Name → Type 0
checkout_finds (Tried (answer.DestExists path)) c name = c.name ≡ name
checkout_finds a c name = ⊥

-- the folder was made
abbrev pub checkout_makes : CheckoutReply → CheckoutWords → Name → Type 0
checkout_makes (Tried answer.Done) c name = c.name ≡ name
checkout_makes a c name = ⊥

abbrev pub checkout_lacks : CheckoutReply → List ℕ → Type 0
checkout_lacks (Tried (answer.NoCommit sum)) commit = sum ≡ commit
checkout_lacks (Tried (answer.Partial sum)) commit = sum ≡ commit
checkout_lacks a commit = ⊥

-- an object of the commit isn't there as its name says
abbrev pub checkout_outside : CheckoutReply → Type 0
checkout_outside (Tried (answer.Lacking path)) = Unit {0}
checkout_outside a = ⊥

abbrev pub checkout_means : Meaning CheckoutWords CheckoutReply
checkout_means = record {
  fit = λ limits c. Unit {0};
  changes = λ since c e. ⊥;
  makes = λ a c. ⊥;
  tells = λ a e. Unit {0};
  says = checkout_says;
  knows = λ since a c. Unit {0};
  shows = checkout_shows;
  remains = λ since v a c. Unit {0};
  stays = checkout_stays;
  keeps = λ since opening out c v. Unit {0};
  keeps_on = λ since opening out c disk. Unit {0};
  works = checkout_works;
  reaches = λ since c name. Unit {0};
  finds = checkout_finds;
  claims = λ c name. c.name ≡ name;
  checks_out = checkout_makes;
  brings = λ since c name bytes. ⊥;
  lacks = checkout_lacks;
  outside = checkout_outside;
  full = λ a. ⊥;
}

-- it checks out the commit that was named at the beginning, to this name
abbrev pub checkout_pursues : Since → CheckoutWords → CheckoutCommand → Type 0
checkout_pursues since c t = (commit : List ℕ) × IsRev c.rev since.start.refs commit × (asked t ≡ Some (record { limits = since.limits; commit = commit; name = c.name }))

abbrev pub checkout_reply : Option CheckoutAnswer → Option CheckoutReply
checkout_reply None = None
checkout_reply (Some a) = Some (Tried a)

abbrev pub checkout_doing : Doing CheckoutsTask CheckoutWords CheckoutReply
checkout_doing = record {
  begins = λ lane t. IsNew t.work;
  pursues = λ since c t. checkout_pursues since c t.work;
  answer = λ t. checkout_reply (answer_of t.work);
  left = λ t. checkout_left t.work;
  hears = λ told t. t;
  heard = λ t. record { objects = 0 };
  learns = learns_nothing;
  asks = λ actor t. None;
  met = λ t. None;
  holds = λ lane t v b. Unit {0};
  made = λ t name. HasMade t.work name;
}
