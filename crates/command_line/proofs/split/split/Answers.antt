use Rattle.std.proofs.Common.{◌≡◌, true, map, refl, subst, Ok, Err}
use Rattle.std.specs.String.{string_bytes}
use Rattle.clap.specs.Faults.{fault_of, is_simple_and_free}
use Rattle.clap.specs.Kinds.{FailsBy}
use Rattle.clap.specs.Simple.{HasMatchesOf}
use Rattle.clap.specs.declared.parser.matches.ArgMatches.{ArgMatches}
use Rattle.command_line.proofs.Cuts.{fault_case, split_ok}
use Rattle.command_line.proofs.split.split.Goals as goal

pub returns-in-Ok : goal.returns-in-Ok
returns-in-Ok c =
    split_ok c.args.words.now c.in-Ok.matches
    (subst (λ a. is_simple_and_free a ≡ true → FailsBy {T = ArgMatches} (fault_of a (map (λ word. string_bytes word) c.args.words.now)) (Ok c.in-Ok.matches)) c.in_ok-command.ensures c.in-Ok.ensures.kinds refl)
    (subst (λ a. HasMatchesOf a (map (λ word. string_bytes word) c.args.words.now) c.in-Ok.matches) c.in_ok-command.ensures c.in-Ok.ensures.matches)

pub returns-in-Err : goal.returns-in-Err
returns-in-Err c =
    fault_case (map (λ word. string_bytes word) c.args.words.now) c.in-Err.error c.fault_of.result
    (subst (λ a. is_simple_and_free a ≡ true → FailsBy {T = ArgMatches} (fault_of a (map (λ word. string_bytes word) c.args.words.now)) (Err c.in-Err.error)) c.in_ok-command.ensures c.in-Err.ensures.kinds refl)
    c.fault_of.ensures
