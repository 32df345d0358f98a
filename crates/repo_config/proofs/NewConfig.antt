-- What is written where there is no configuration is one.
use Rattle.std.proofs.Common.{◌≡◌, ◌≢◌, inl, inr, ⊎_elim, ◌≤◌, ℕ, List, [], ◌∷◌, refl, arith, codes}
use Rattle.std.specs.Prelude.{All, IsAscii}
use Rattle.std.proofs.lemmas.List.Elements.{All-from_recursion}
use Rattle.std.proofs.lemmas.Str.{IsUtf8-from_ascii}
use Rattle.std.proofs.lemmas.Str.Ascii.{IsAscii-nil, IsAscii-cons}
use Rattle.keyfile.specs.declared.entry.KeyLine.{KeyLine}
use Rattle.keyfile.specs.Entries.{entries_in, entries_of}
use Rattle.keyfile.specs.Faults.{AreSound, HasGroup, HasNoGroup, MayFollow}
use Rattle.keyfile.specs.Line.{Line, IsGroupByte, IsGroupName, IsKeyByte, IsKeyName, IsValue, file_text}
use Rattle.keyfile.specs.Line.Line.{Group, Key}
use Rattle.repo_config.specs.Config.{IsConfig, config_text}

-- its lines
abbrev lines : List Line
lines = Group (codes "core") ∷ Key (codes "repo_version") (codes "1") ∷ Key (codes "mode") (codes "bare") ∷ []

abbrev entries : List KeyLine
entries =
    record { group = codes "core"; key = codes "repo_version"; value = codes "1" }
    ∷ record { group = codes "core"; key = codes "mode"; value = codes "bare" }
    ∷ []

text_of : config_text ≡ file_text lines
unfolding file_text
text_of = refl

entries_are : entries ≡ entries_of lines
unfolding entries_in
entries_are = refl

value : (text : List ℕ) → IsAscii text → All (λ b. b ≢ 0) text → All (λ b. b ≢ 10) text → IsValue text
value text small full line = record { text = record { utf8 = IsUtf8-from_ascii text small; no_zero = full }; one_line = line }

group : IsGroupName (codes "core")
group = record {
  not_empty = λ e. cc;
  plain = All-from_recursion IsGroupByte (codes "core") (sign 99 (omega arith) (omega arith) (λ e. omega (arith, e)) (λ e. omega (arith, e)), (sign 111 (omega arith) (omega arith) (λ e. omega (arith, e)) (λ e. omega (arith, e)), (sign 114 (omega arith) (omega arith) (λ e. omega (arith, e)) (λ e. omega (arith, e)), (sign 101 (omega arith) (omega arith) (λ e. omega (arith, e)) (λ e. omega (arith, e)), tt))));
}
  where
    sign : (b : ℕ) → 32 ≤ b → b ≤ 126 → b ≢ 91 → b ≢ 93 → IsGroupByte b
    sign b least most begin end = (least, most, begin, end)

letter : (b : ℕ) → 97 ≤ b → b ≤ 122 → IsKeyByte b
letter b least most = inr (inl (least, most))

version_name : IsKeyName (codes "repo_version")
version_name = record {
  not_empty = λ e. cc;
  plain = All-from_recursion IsKeyByte (codes "repo_version") (letter 114 (omega arith) (omega arith), (letter 101 (omega arith) (omega arith), (letter 112 (omega arith) (omega arith), (letter 111 (omega arith) (omega arith), (inr (inr (inr (inr (inl refl)))), (letter 118 (omega arith) (omega arith), (letter 101 (omega arith) (omega arith), (letter 114 (omega arith) (omega arith), (letter 115 (omega arith) (omega arith), (letter 105 (omega arith) (omega arith), (letter 111 (omega arith) (omega arith), (letter 110 (omega arith) (omega arith), tt))))))))))));
}

mode_name : IsKeyName (codes "mode")
mode_name = record {
  not_empty = λ e. cc;
  plain = All-from_recursion IsKeyByte (codes "mode") (letter 109 (omega arith) (omega arith), (letter 111 (omega arith) (omega arith), (letter 100 (omega arith) (omega arith), (letter 101 (omega arith) (omega arith), tt))));
}

version_value : IsValue (codes "1")
version_value =
    value (codes "1")
    (IsAscii-cons 49 [] (omega arith) IsAscii-nil)
    (All-from_recursion (λ b. b ≢ 0) (codes "1") ((λ e. omega (arith, e)), tt))
    (All-from_recursion (λ b. b ≢ 10) (codes "1") ((λ e. omega (arith, e)), tt))

mode_value : IsValue (codes "bare")
mode_value =
    value (codes "bare")
    (IsAscii-cons 98 (97 ∷ 114 ∷ 101 ∷ []) (omega arith) (IsAscii-cons 97 (114 ∷ 101 ∷ []) (omega arith) (IsAscii-cons 114 (101 ∷ []) (omega arith) (IsAscii-cons 101 [] (omega arith) IsAscii-nil))))
    (All-from_recursion (λ b. b ≢ 0) (codes "bare") ((λ e. omega (arith, e)), ((λ e. omega (arith, e)), ((λ e. omega (arith, e)), ((λ e. omega (arith, e)), tt)))))
    (All-from_recursion (λ b. b ≢ 10) (codes "bare") ((λ e. omega (arith, e)), ((λ e. omega (arith, e)), ((λ e. omega (arith, e)), ((λ e. omega (arith, e)), tt)))))

abbrev first_line : Line
first_line = Group (codes "core")

abbrev second_line : Line
second_line = Key (codes "repo_version") (codes "1")

grouped : (before : List Line) → HasGroup (codes "core") before → HasNoGroup before → ⊥
grouped before has none = none (codes "core") has

first_follows : MayFollow [] first_line
first_follows = record { line_of = group; grouped = λ alone. alone; new = λ repeats. repeats }

second_follows : MayFollow (first_line ∷ []) second_line
second_follows = record {
  line_of = (version_name, version_value);
  grouped = grouped (first_line ∷ []) (inl refl);
  new = λ repeats. ⊎_elim (λ here. absurd here.0) (λ none. absurd none) repeats;
}

third_follows : MayFollow (first_line ∷ second_line ∷ []) (Key (codes "mode") (codes "bare"))
third_follows = record {
  line_of = (mode_name, mode_value);
  grouped = grouped (first_line ∷ second_line ∷ []) (inl refl);
  new = λ repeats. ⊎_elim (λ here. absurd here.0) (⊎_elim (λ same. apart same.0) (λ none. absurd none)) repeats;
}
  where
    apart : codes "repo_version" ≡ codes "mode" → ⊥
    apart e = cc

sound : AreSound lines
sound = (first_follows, (second_follows, (third_follows, tt)))

pub new_is : IsConfig config_text
new_is = record {
  few = omega arith;
  entries = entries;
  reads = (lines, text_of, sound, entries_are);
  version = (0, omega arith, refl);
  mode = (1, omega arith, refl);
}
