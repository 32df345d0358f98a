use Rattle.std.proofs.Common.{◌∙◌, ◌∷◌, ◌++◌, List, ℕ, take, ap}
use Rattle.ost_types.specs.Path.{joined}
use Rattle.host_files.specs.HostPath.{host_text}
use Rattle.host_files.proofs.Texts.{text_more, text_fits, front_short, part_longest, front_text}
use Rattle.host_files.proofs.standing.spell_front.Goals as goal

pub loop-name-init : goal.loop-name-init
unfolding joined
loop-name-init c = c.restart.ensures

pub push-requires : goal.push-requires
push-requires c =
    let front : List (List ℕ) = take c.args.count c.names-names.result.now in
    rw c.as_str.ensures.value
    (text_fits c.loop-name.text front c.loop-name.name-index c.name-item.result c.loop-name.invariant c.loop-name-test.true c.name-item.is (front_short c.names-names.result.now c.args.count c.names-names.ensures.path))

pub loop-name-preserved : goal.loop-name-preserved
loop-name-preserved c =
    let front : List (List ℕ) = take c.args.count c.names-names.result.now in
    c.push.ensures ∙ ap (λ (x : List ℕ). c.loop-name.text ++ 47 ∷ x) c.as_str.ensures.value
    ∙ text_more c.loop-name.text front c.loop-name.name-index c.name-item.result c.loop-name.invariant c.loop-name-test.true c.name-item.is

pub returns-clause-text : goal.returns-clause-text
returns-clause-text c =
    front_text c.loop-name.text c.names-names.result.now c.args.count c.loop-name.name-index c.loop-name.invariant c.loop-name-test.false
    ∙ ap (λ (all : List (List ℕ)). host_text (take c.args.count all)) c.names-names.ensures.value

pub returns-clause-short : goal.returns-clause-short
returns-clause-short c =
    part_longest c.loop-name.text c.names-names.result.now c.args.count c.loop-name.name-index c.loop-name.invariant c.names-names.ensures.path
