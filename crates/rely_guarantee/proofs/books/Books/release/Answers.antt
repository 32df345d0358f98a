use Rattle.std.proofs.Common.{◌≡◌, [], append-nil, arith, inl, refl, sym}
use Rattle.std.proofs.lemmas.List.Elements.{All-contains}
use Rattle.rely_guarantee.specs.declared.books.Share.{Share}
use Rattle.rely_guarantee.proofs.Lists.{all_of}
use Rattle.rely_guarantee.proofs.Locking.{doomed_held, doomed_kept}
use Rattle.rely_guarantee.proofs.books.Books.release.Goals as goal

pub returns-clause-agrees : goal.returns-clause-agrees
returns-clause-agrees c = λ agrees. record {
  turn = λ x y alone turn. agrees.turn x y (c.given_up-self.ensures.no_more x alone) (c.given_up-self-2.ensures.no_more y turn);
  shared = λ x alone. all_of (λ (s : Share). s.lane ≡ x) _ (λ s has. All-contains (λ (s : Share). s.lane ≡ x) _ s (agrees.shared x (c.given_up-self.ensures.no_more x alone)) (c.give_up_shares.ensures.no_more s has));
  doomed = doomed_held c.given_up-self.result c.args.self.now.pending;
}

pub returns-clause-spared : goal.returns-clause-spared
returns-clause-spared c = record {
  shared = λ x a l has. c.give_up_shares.ensures.kept x l has;
  exclusive = c.given_up-self.ensures.others;
  turn = c.given_up-self-2.ensures.others;
  sysroot = c.given_up-self-3.ensures.others;
  holds = λ h other has. c.give_up_holds.ensures h other has;
  wants = λ w a l has. c.give_up_wants.ensures w l has;
  pins = λ p other has. c.give_up_pins.ensures.kept p other has;
  pinned = λ p has. inl (c.give_up_pins.ensures.no_more p has);
  doomed = λ x other is. (doomed_kept x c.args.self.now.exclusive c.given_up-self.result c.args.self.now.pending c.args.self.now.pending is (c.given_up-self.ensures.others x other is) refl, refl);
  uses = λ u other has. has;
  claims = λ x other has. c.give_up_claims.ensures.kept x other has;
  claimers = λ x other has. c.give_up_claims.ensures.no_more x has;
  pending = λ p other is. is;
  shown = λ p is. inl is;
  owed = λ p other is. refl;
  more = [];
  grows = sym (append-nil _);
  replies = omega arith;
  opened = refl;
  start = refl;
  listed = λ x other held. refl;
}
