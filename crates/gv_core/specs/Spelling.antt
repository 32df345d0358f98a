-- A type string spells one kind.
use Rattle.std.proofs.Common.{◌≡◌, ℕ, List, [], ◌∷◌, ◌++◌, Some, refl, sym, ap, ◌∙◌, append_assoc}
use Rattle.std.specs.Option.{unwrap_or}
use Rattle.std.specs.Coded.{Coded, code_by, coded_list, coded_ℕ}
use Rattle.std.proofs.lemmas.List.{append-nil}
use Rattle.gv_core.specs.declared.kind.Basic.{Basic}
use Rattle.gv_core.specs.declared.kind.Basic.TheVariants as b
use Rattle.gv_core.specs.Kind.{Kind, Kinds, basic, variant, array, maybe, tuple, entry, no_kinds, kind, letter, spell, spell_all, Item, one, round, curly, gather, read_letter, items_at, kind_of}

letter_reads : (x : Basic) (st : List Item) → read_letter (letter x) st ≡ Some (one (basic x) ∷ st)
letter_reads b.Byte st = refl
letter_reads b.Bool st = refl
letter_reads b.I16 st = refl
letter_reads b.U16 st = refl
letter_reads b.I32 st = refl
letter_reads b.U32 st = refl
letter_reads b.I64 st = refl
letter_reads b.U64 st = refl
letter_reads b.Handle st = refl
letter_reads b.Double st = refl
letter_reads b.Text st = refl
letter_reads b.Path st = refl
letter_reads b.Signature st = refl

-- kinds in front
abbrev ahead : Kinds → List Item → List Item
ahead no_kinds st = st
ahead (kind k ks) st = one k ∷ ahead ks st

gathers : (ks : Kinds) (st : List Item) → gather (ahead ks (round ∷ st)) ≡ Some (ks, st)
gathers no_kinds st = refl
gathers (kind k ks) st = rw (gathers ks st) refl

mutual
  unfolding spell items_at

  pub spelled : (k : Kind) (rest : List ℕ) (st : List Item) → items_at rest ≡ Some st → items_at (spell k ++ rest) ≡ Some (one k ∷ st)
  spelled (basic x) rest st e = rw e (letter_reads x st)
  spelled variant rest st e = rw e refl
  spelled (array k) rest st e = rw (spelled k rest st e) refl
  spelled (maybe k) rest st e = rw (spelled k rest st e) refl
  spelled (tuple ks) rest st e =
      let closing : items_at (41 ∷ rest) ≡ Some (round ∷ st) = rw e refl in
      let inside = spelled_all ks (41 ∷ rest) (round ∷ st) closing in
      let regroup : (spell_all ks ++ 41 ∷ []) ++ rest ≡ spell_all ks ++ (41 ∷ rest) = append_assoc (spell_all ks) (41 ∷ []) rest in
      rw (regroup, inside, gathers ks st) refl
  spelled (entry x k) rest st e =
      let closing : items_at (125 ∷ rest) ≡ Some (curly ∷ st) = rw e refl in
      let inside = spelled k (125 ∷ rest) (curly ∷ st) closing in
      let regroup : (spell k ++ 125 ∷ []) ++ rest ≡ spell k ++ (125 ∷ rest) = append_assoc (spell k) (125 ∷ []) rest in
      rw (regroup, inside, letter_reads x (one k ∷ curly ∷ st)) refl

  spelled_all : (ks : Kinds) (rest : List ℕ) (st : List Item) → items_at rest ≡ Some st → items_at (spell_all ks ++ rest) ≡ Some (ahead ks st)
  spelled_all no_kinds rest st e = e
  spelled_all (kind k ks) rest st e =
      ap items_at (append_assoc (spell k) (spell_all ks) rest) ∙ spelled k (spell_all ks ++ rest) (ahead ks st) (spelled_all ks rest st e)

-- what is spelled is read
pub kind_of-spell : (k : Kind) → kind_of (spell k) ≡ Some k
unfolding kind_of items_at
kind_of-spell k = rw (sym (append-nil (spell k))) (rw (spelled k [] [] refl) refl)

-- a kind is stored as its type string
abbrev pub kind_from : List ℕ → Kind
kind_from text = unwrap_or (kind_of text) variant

pub kind_back : (k : Kind) → kind_from (spell k) ≡ k
kind_back k = ap (λ o. unwrap_or o variant) (kind_of-spell k)

abbrev pub kind_code : Coded Kind
kind_code = code_by (List ℕ) (coded_list coded_ℕ) spell kind_from kind_back
