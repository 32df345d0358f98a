use Rattle.std.proofs.Common.{◌≡◌, Err, ◌∙◌, ap, subst}
use Rattle.ost_types.specs.Parse.{IsParsed}
use Rattle.ost_types.specs.declared.path.parse.PathFault.TheVariants.{Empty, TooDeep, NoMemory}
use Rattle.repo_layout.proofs.KnownPaths.{parsed_only, parsed_same}
use Rattle.repo_layout.proofs.known.known_path.Goals as goal

pub unreachable-requires : goal.unreachable-requires
unreachable-requires c =
    let fault = subst (IsParsed c.args.text.now) (c.in-Err-Empty.is ∙ ap Err c.in-Err-Empty.field-0-is) c.parse.ensures in
    let e : Empty ≡ NoMemory = parsed_only c.args.text.now c.requires.0 Empty c.requires.1 fault in
    cc

pub unreachable-requires-in-Err-TooDeep : goal.unreachable-requires-in-Err-TooDeep
unreachable-requires-in-Err-TooDeep c =
    let fault = subst (IsParsed c.args.text.now) (c.in-Err-TooDeep.is ∙ ap Err c.in-Err-TooDeep.field-0-is) c.parse.ensures in
    let e : TooDeep ≡ NoMemory = parsed_only c.args.text.now c.requires.0 TooDeep c.requires.1 fault in
    cc

pub returns-in-Ok : goal.returns-in-Ok
returns-in-Ok c = λ p parsed. parsed_same c.args.text.now c.in-Ok.path p (subst (IsParsed c.args.text.now) c.in-Ok.is c.parse.ensures) parsed
