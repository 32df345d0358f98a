-- What was seen to still is where notes are kept.
use Rattle.std.proofs.Common.{◌≡◌, ◌⊎◌, subst, inl, inr, ⊎_elim, List, ℕ}
use Rattle.host_files.specs.declared.changed.Changed.{Changed}
use Rattle.host_files.specs.Changed.{IsSeenTo, KeepsNotes}

pub seen_kept : (text : List ℕ) (old new : Changed) → KeepsNotes old new → IsSeenTo text old → IsSeenTo text new
seen_kept text old new keeps (inl noted) = inl (keeps.notes text noted)
seen_kept text old new keeps (inr short) = inr (keeps.short short)

pub keeps_both : (a b c : Changed) → KeepsNotes a b → KeepsNotes b c → KeepsNotes a c
keeps_both a b c one two = record {
  notes = λ text was. two.notes text (one.notes text was);
  short = λ was. two.short (one.short was);
  lost = λ was. two.lost (one.lost was);
}

pub keeps_from : (a b c : Changed) → b ≡ a → KeepsNotes b c → KeepsNotes a c
keeps_from a b c is keeps = subst (λ (x : Changed). KeepsNotes x c) is keeps
