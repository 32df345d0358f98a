-- How far an act brings its lane.
use Rattle.std.proofs.Common.{◌≡◌, ◌≢◌, ◌<◌, ℕ, sym, ◌∙◌, ap, subst, arith, [], ◌∷◌, ◌++◌, length, length-append, Option, Some, None}
use Rattle.ost_types.specs.declared.limits.Limits.{Limits}
use Rattle.rely_guarantee.specs.declared.books.Base.{Base}
use Rattle.rely_guarantee.specs.declared.kind.Outcome.TheVariants as came
use Rattle.ref_book.specs.declared.book.RefBook.{RefBook}
use Rattle.command.specs.Doing.{Doing}
use Rattle.lane_system.specs.declared.ask.Ask.{Ask}
use Rattle.lane_system.specs.declared.ask.Ask.TheVariants as ask
use Rattle.lane_system.specs.declared.lane.Lane.{Lane}
use Rattle.lane_system.specs.declared.lane.Reply.{Reply}
use Rattle.lane_system.specs.declared.lane.Running.{Running}
use Rattle.lane_system.specs.Booked.{Moves}
use Rattle.lane_system.specs.Family.{Family, FsSpec}
use Rattle.lane_system.specs.LaneActs.{IsTaskOf, Takes, told_by}
use Rattle.lane_system.specs.Ranks.{Ranked, at_lane, commands_left, left_of, rank, rank_of, to_come}
use Rattle.lane_system.specs.System.{System}
use Rattle.lane_system.proofs.Family.{FamilyLaws}
use Rattle.lane_system.proofs.Ranking.{at_lane_apart, come_less, come_same, rank_less, rank_most}
use Rattle.lane_system.proofs.Rounds.{left_now, left_was}

-- a step that goes on leaves fewer
pub step_less : {F T W A : Type 0} (f : FsSpec F) (c : Family T W A) (cl : FamilyLaws c) (limits : Limits) (actor lane number : ℕ) (refs refs' : RefBook) (objects : ℕ) (old new : Base F) (words : W) (task : Option (Running T)) (t' : T)
    → Takes f c limits actor lane number refs refs' objects old new words task came.More t' → c.doing.left t' < left_of c.doing task
step_less {F} {T} f c cl limits actor lane number refs refs' objects old new words task t' x = by task x.is
  where
    fewer : c.doing.left t' < c.doing.left x.work
    fewer = omega (arith, cl.commands.steps.falls (told_by c.doing objects x.work) t' x.step.steps, cl.commands.hears.left (record { objects = objects }) x.work)

    by : (o : Option (Running T)) → IsTaskOf c.doing lane o x.work → c.doing.left t' < left_of c.doing o
    by None is = omega (arith, fewer, is.1)
    by (Some r) is = subst (λ u. c.doing.left t' < c.doing.left u) is fewer

module _ {F T W A : Type 0} (d : Doing T W A) (s new : System F T W A) (n : ℕ) (l l' : Lane T W A) (m : Moves s new n l l') where
  others : (a : ℕ) → a ≢ n → (commands_left new a ≡ commands_left s a) × (rank d new a ≡ rank d s a)
  others a ne = (
    ap (λ xs. at_lane to_come xs a) m.now ∙ at_lane_apart to_come s.lanes n a l' ne,
    ap (λ xs. at_lane (rank_of d) xs a) m.now ∙ at_lane_apart (rank_of d) s.lanes n a l' ne,
  )

  pub ranked_more : l'.replies ≡ l.replies → left_of d l'.task < left_of d l.task → Ranked d s new n ask.More
  ranked_more replies less = record {
    falls = λ is. (
      (left_now d s new n l l' m).0 ∙ come_same d l l' m.words m.command replies less ∙ sym (left_was d s new n l l' m).0,
      omega (arith, (left_now d s new n l l' m).1, (left_was d s new n l l' m).1, rank_less d l l' m.words m.command replies less),
    );
    done = λ lane command is. cc;
    others = others;
  }

  pub ranked_done : (r : Reply A) (lane command : ℕ) → l'.replies.items ≡ l.replies.items ++ r ∷ [] → l'.task ≡ None → Ranked d s new n (ask.Done lane command)
  ranked_done r lane command grows task = record {
    falls = λ is. cc;
    done = λ a b is. (
      omega (arith, (left_now d s new n l l' m).0, (left_was d s new n l l' m).0, come_less d l l' m.words m.command task (ap length grows ∙ length-append l.replies.items (r ∷ []))),
      omega (arith, (left_now d s new n l l' m).1, rank_most d l l' m.words m.command task (ap length grows ∙ length-append l.replies.items (r ∷ []))),
    );
    others = others;
  }

pub ranked_same : {F T W A : Type 0} (d : Doing T W A) (s new : System F T W A) (n : ℕ) (x : Ask) → new ≡ s → x ≢ ask.More → ((lane command : ℕ) → x ≢ ask.Done lane command) → Ranked d s new n x
ranked_same d s new n x same more done = record {
  falls = λ is. absurd (more is);
  done = λ lane command is. absurd (done lane command is);
  others = λ a ne. (ap (λ y. commands_left y a) same, ap (λ y. rank d y a) same);
}
