use Rattle.std.proofs.Common.{inl, inr, refl, ⊎_elim}
use Rattle.rely_guarantee.proofs.Locking.{agrees_granted, doomed_held, granted_spared}
use Rattle.rely_guarantee.proofs.books.Books.grant.Goals as goal

pub returns-then-held-clause-agrees : goal.returns-then-held-clause-agrees
returns-then-held-clause-agrees c = agrees_granted c.args.wants.now c.args.lane _ _ c.requires (doomed_held c.taken-self.result c.args.self.now.pending) c.taken-self.ensures.no_more c.taken-self-2.ensures.no_more c.add_share-shared.ensures.no_more

pub returns-then-held-clause-spared : goal.returns-then-held-clause-spared
returns-then-held-clause-spared c = granted_spared c.args.wants.now c.args.actor c.args.lane c.args.self.now
    (record c.args.self.now { shared = c.add_share-shared.new.shares; exclusive = c.taken-self.result; turn = c.taken-self-2.result; sysroot = c.taken-self-3.result; holds = c.add_hold-held.new.holds; pins = c.add_pin-pinned.new.pins })
    refl c.requires c.add_share-shared.ensures.kept
    (c.taken-self.ensures.kept (λ wanted. (c.requires.exclusive wanted).0)) (c.taken-self-2.ensures.kept (λ wanted. (c.requires.turn wanted).1)) (c.taken-self-3.ensures.kept c.requires.sysroot)
    c.add_hold-held.ensures.kept c.add_pin-pinned.ensures.kept c.add_pin-pinned.ensures.no_more

pub returns-else-held-clause-agrees : goal.returns-else-held-clause-agrees
returns-else-held-clause-agrees c = agrees_granted c.args.wants.now c.args.lane _ _ c.requires (doomed_held c.taken-self.result c.args.self.now.pending) c.taken-self.ensures.no_more c.taken-self-2.ensures.no_more c.add_share-shared.ensures.no_more

pub returns-else-held-clause-spared : goal.returns-else-held-clause-spared
returns-else-held-clause-spared c = granted_spared c.args.wants.now c.args.actor c.args.lane c.args.self.now
    (record c.args.self.now { shared = c.add_share-shared.new.shares; exclusive = c.taken-self.result; turn = c.taken-self-2.result; sysroot = c.taken-self-3.result; holds = c.add_hold-held.new.holds; pins = c.add_pin-pinned.new.pins })
    refl c.requires c.add_share-shared.ensures.kept
    (c.taken-self.ensures.kept (λ wanted. (c.requires.exclusive wanted).0)) (c.taken-self-2.ensures.kept (λ wanted. (c.requires.turn wanted).1)) (c.taken-self-3.ensures.kept c.requires.sysroot)
    c.add_hold-held.ensures.kept c.add_pin-pinned.ensures.kept c.add_pin-pinned.ensures.no_more

pub returns-then-held-clause-keeps : goal.returns-then-held-clause-keeps
returns-then-held-clause-keeps c = record {
  exclusive = c.taken-self.ensures.kept (λ wanted. (c.requires.exclusive wanted).0) c.args.lane;
  turn = c.taken-self-2.ensures.kept (λ wanted. (c.requires.turn wanted).1) c.args.lane;
  sysroot = c.taken-self-3.ensures.kept c.requires.sysroot c.args.lane;
  holds = λ h own has. c.add_hold-held.ensures.kept h has;
  wants = λ w own has. has;
  pins = λ p own has. c.add_pin-pinned.ensures.kept p has;
  pinned = λ p other has. ⊎_elim (λ was. was) (λ new. absurd (other new.1)) (c.add_pin-pinned.ensures.no_more p has);
  claims = λ x has. has;
  others = λ x other has. has;
  start = refl;
  listed = refl;
}

pub returns-then-held-clause-shared : goal.returns-then-held-clause-shared
returns-then-held-clause-shared c = λ x has. ⊎_elim (λ was. inl was) (λ new. inr new.1) (c.add_share-shared.ensures.no_more x has)

pub returns-else-held-clause-keeps : goal.returns-else-held-clause-keeps
returns-else-held-clause-keeps c = record {
  exclusive = c.taken-self.ensures.kept (λ wanted. (c.requires.exclusive wanted).0) c.args.lane;
  turn = c.taken-self-2.ensures.kept (λ wanted. (c.requires.turn wanted).1) c.args.lane;
  sysroot = c.taken-self-3.ensures.kept c.requires.sysroot c.args.lane;
  holds = λ h own has. c.add_hold-held.ensures.kept h has;
  wants = λ w own has. has;
  pins = λ p own has. c.add_pin-pinned.ensures.kept p has;
  pinned = λ p other has. ⊎_elim (λ was. was) (λ new. absurd (other new.1)) (c.add_pin-pinned.ensures.no_more p has);
  claims = λ x has. has;
  others = λ x other has. has;
  start = refl;
  listed = refl;
}

pub returns-else-held-clause-shared : goal.returns-else-held-clause-shared
returns-else-held-clause-shared c = λ x has. ⊎_elim (λ was. inl was) (λ new. inr new.1) (c.add_share-shared.ensures.no_more x has)
