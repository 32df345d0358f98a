-- Lanes that are fit can be run within the program's limits.
use Rattle.std.proofs.Common.{◌≡◌, ◌<◌, ◌≤◌, ℕ, List, length, get_or, map, sym, ◌∙◌, ap, subst, arith}
use Rattle.std.specs.Prelude.{All}
use Rattle.std.proofs.lemmas.List.{get_or-map, length-map}
use Rattle.ost_types.specs.declared.limits.Limits.{Limits}
use Rattle.script.specs.declared.command.Command.{Command}
use Rattle.script.specs.declared.command.Command.TheVariants.{Refs, Status, RevParse, Log, Ls, Cat, Checkout, Reset, DropRef, Prune, Cleanup, Commit}
use Rattle.script.specs.declared.command.Lane as script
use Rattle.script_reader.specs.Script.{command_limit, lane_limit}
use Rattle.script_trees.specs.Fit.{AreFit, IsFit, IsWide}
use Rattle.lane_system.specs.Kept.{AreIdle}
use Rattle.lane_system.specs.Lanes.{IsAt}
use Rattle.commands.specs.Family.{Lane, Words, means}
use Rattle.commands.specs.Lanes.{IsUnbegun, words_in}
use Rattle.commands.specs.Words.{words_of}
use Rattle.commands.proofs.Rows.{at_map, map_at}
use Rattle.top_call.specs.Words.{commands_of}

-- what holds of each element holds of the one at a place
at_place : {X : Type 0} (P : X → Type 0) (xs : List X) (i : ℕ) (x : X) → All P xs → IsAt xs i x → P x
at_place P xs i x all at = subst P at.1 (all i x at.0)

fit_command : (limits : Limits) (c : Command) → IsFit limits c → means.fit limits (words_of c)
fit_command limits Refs is = tt
fit_command limits Status is = tt
fit_command limits (RevParse rev) is = tt
fit_command limits (Log rev) is = tt
fit_command limits (Ls rev path) is = tt
fit_command limits (Cat rev path) is = tt
fit_command limits (Checkout rev name) is = tt
fit_command limits (Reset branch commit) is = tt
fit_command limits (DropRef branch) is = tt
fit_command limits (Prune depth) is = tt
fit_command limits Cleanup is = tt
fit_command limits (Commit branch tree subject body time) is = record { items = is.ordered; makeable = is.makeable; small = λ parent short. is.small parent time short }

pub few_lanes : (lanes : List script.Lane) → AreFit (commands_of lanes) → length lanes ≤ lane_limit
few_lanes lanes fit = omega (arith, fit.few, length-map lanes (λ (lane : script.Lane). lane.commands.items))

-- what holds of each element of the images holds of those of the elements
of_images : {X Y : Type 0} (P : Y → Type 0) (g : X → Y) (xs : List X) → All P (map g xs) → All (λ x. P (g x)) xs
of_images P g xs all i d less = subst P (get_or-map g xs i d (g d) less) (all i (g d) (subst (λ n. i < n) (sym (length-map xs g)) less))

pub short_lanes : (lanes : List script.Lane) → AreFit (commands_of lanes) → All (λ lane. length lane.commands.items ≤ command_limit) lanes
short_lanes lanes fit = of_images (λ commands. length commands ≤ command_limit) (λ (lane : script.Lane). lane.commands.items) lanes fit.short

pub fit_within : (limits : Limits) (lanes : List script.Lane) → IsWide limits → AreFit (commands_of lanes) → All (λ lane. All (λ c. means.fit limits (words_of c)) lane.commands.items) lanes
fit_within limits lanes wide fit =
    let each = of_images (λ commands. All (IsFit limits) commands) (λ (lane : script.Lane). lane.commands.items) lanes (fit.each limits wide) in
    λ i d less n c there. fit_command limits (get_or (get_or lanes i d).commands.items n c) (each i d less n c there)

-- so their lanes can begin
module _ (limits : Limits) (scripts : List script.Lane) (lanes : List Lane) (same : words_in lanes ≡ map (λ lane. map words_of lane.commands.items) scripts)
    (unbegun : All IsUnbegun lanes) (short : All (λ lane. length lane.commands.items ≤ command_limit) scripts) (fit : All (λ lane. All (λ c. means.fit limits (words_of c)) lane.commands.items) scripts) where
  source : (i : ℕ) (lane : Lane) → IsAt lanes i lane → (from : script.Lane) × IsAt scripts i from × (lane.words.items ≡ map words_of from.commands.items)
  source i lane at = map_at (λ (l : script.Lane). map words_of l.commands.items) scripts i lane.words.items (subst (λ rows. IsAt rows i lane.words.items) same (at_map (λ (l : Lane). l.words.items) lanes i lane at))

  words_fit : (i : ℕ) (lane : Lane) → IsAt lanes i lane → (number : ℕ) (words : Words) → IsAt lane.words.items number words → means.fit limits words
  words_fit i lane at number words is =
      let from = source i lane at in
      let command = map_at words_of from.0.commands.items number words (subst (λ xs. IsAt xs number words) from.2 is) in
      subst (λ w. means.fit limits w) (sym command.2) (at_place (λ c. means.fit limits (words_of c)) from.0.commands.items number command.0 (at_place (λ l. All (λ c. means.fit limits (words_of c)) l.commands.items) scripts i from.0 fit from.1) command.1)

  words_short : (i : ℕ) (lane : Lane) → IsAt lanes i lane → length lane.words.items ≤ 64
  words_short i lane at =
      let from = source i lane at in
      omega (arith, ap length from.2, length-map from.0.commands.items words_of, at_place (λ l. length l.commands.items ≤ command_limit) scripts i from.0 short from.1)

  pub all_idle : AreIdle means limits lanes
  all_idle i lane at =
      let fresh = at_place IsUnbegun lanes i lane unbegun at in
      record {
        is = record {
          fits = words_fit i lane at;
          short = words_short i lane at;
          within = subst (λ replies. length replies ≤ length lane.words.items) (sym fresh.replies) (omega arith);
          room = fresh.room;
        };
        task = fresh.task;
        replies = fresh.replies;
      }

  pub as_many : length scripts ≤ lane_limit → length lanes ≤ lane_limit
  as_many few = omega (arith, few, sym (length-map lanes (λ (l : Lane). l.words.items)) ∙ ap length same ∙ length-map scripts (λ (l : script.Lane). map words_of l.commands.items))
