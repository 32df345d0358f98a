use Rattle.std.proofs.Common.{◌+◌, MatchBool, subst, arith}
use Rattle.bls_entry.specs.Tracks.{Follows, MayNot}
use Rattle.bls_entry.proofs.Followed.{texts_in}
use Rattle.bls_entry.proofs.Whole.{went_begin, went_on, went_through, no_end, refused}
use Rattle.bls_entry.proofs.read.read_entry.Goals as goal

pub loop-rest-init : goal.loop-rest-init
loop-rest-init c = went_begin c.args.bytes.now c.nothing-found.result c.nothing-found.ensures

pub returns-in_default : goal.returns-in_default
returns-in_default c = no_end c.args.bytes.now c.loop-rest.rest.now c.loop-rest.number c.loop-rest.found c.loop-rest.invariant (λ e. grind (arith, e, c.loop-rest-test.true)) c.in_default.ensures

pub returns-then-not-take : goal.returns-then-not-take
returns-then-not-take c =
    let w = c.loop-rest.invariant in
    refused c.args.bytes.now c.loop-rest.rest.now c.in-Some.line.now c.in-Some.behind.now c.loop-rest.number c.loop-rest.found w c.in-Some.ensures.0 c.in-Some.ensures.1
    (subst (λ r. MatchBool r (Follows w.before c.in-Some.line.now c.take.new.self) (MayNot w.before c.in-Some.line.now)) c.if-not-take.true (c.take.ensures w.before w.tracks))

pub loop-rest-preserved : goal.loop-rest-preserved
loop-rest-preserved c =
    let w = c.loop-rest.invariant in
    went_on c.args.bytes.now c.loop-rest.rest.now c.in-Some.line.now c.in-Some.behind.now c.loop-rest.number c.loop-rest.found c.take.new.self w c.in-Some.ensures.0
    (subst (λ r. MatchBool r (Follows w.before c.in-Some.line.now c.take.new.self) (MayNot w.before c.in-Some.line.now)) c.if-not-take.false (c.take.ensures w.before w.tracks))

pub into_entry-requires : goal.into_entry-requires
into_entry-requires c = let w = c.loop-rest.invariant in texts_in c.loop-rest.found w.before w.tracks w.sound

pub returns : goal.returns
returns c = went_through c.args.bytes.now c.loop-rest.rest.now c.loop-rest.number c.loop-rest.found c.into_entry.result c.loop-rest.invariant (grind (arith, c.loop-rest-test.false)) c.into_entry.ensures
