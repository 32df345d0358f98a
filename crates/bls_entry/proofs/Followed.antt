-- Lines that may follow those that the reader has taken, and those that may not.
use Rattle.std.proofs.Common.{◌≡◌, ◌≢◌, ◌<◌, ℕ, Bool, true, false, List, [], ◌∷◌, ◌++◌, Option, Some, None, IfSome, MatchOption, refl, sym, ◌∙◌, ap, subst}
use Rattle.std.proofs.lemmas.Slice.Eq.{bytes_eq-Decides}
use Rattle.ost_types.specs.Path.{same_name}
use Rattle.bls_entry.specs.declared.found.Found.{Found}
use Rattle.bls_entry.specs.declared.key.Key.{Key}
use Rattle.bls_entry.specs.declared.key.Key.TheVariants.{Title, Version, Options, Linux, Initrd}
use Rattle.bls_entry.specs.Line.{Line, BeginsSetting, Fits, IsOneLine, IsSetting, line_text, spelled}
use Rattle.bls_entry.specs.Line.Line.{Blank, Comment, Setting}
use Rattle.bls_entry.specs.Entry.{MayFollow, GoOn, AreSound, value_of}
use Rattle.bls_entry.specs.Tracks.{AreTexts, Follows, MayNot, Refuses, Takes, Tracks, Values, shown, value_in, values_of, with_value}
use Rattle.bls_entry.proofs.Keys.{spelled_one, in_values, values_kept, values_with, no_value, own_value, other_value}
use Rattle.bls_entry.proofs.Settings.{one_setting}

pub blank_follows : (f : Found) (before : List Line) (text : List ℕ) → text ≡ [] → Tracks f before → Follows before text f
unfolding value_of
blank_follows f before text is t = record { line = Blank; text_of = is; may = record { line_of = tt; new = tt }; tracks = t ∙ values_kept before Blank (λ known. refl) }

pub comment_follows : (f : Found) (before : List Line) (text rest : List ℕ) → text ≡ 35 ∷ rest → IsOneLine rest → Tracks f before → Follows before text f
unfolding value_of
comment_follows f before text rest is one t = record { line = Comment rest; text_of = is; may = record { line_of = one; new = tt }; tracks = t ∙ values_kept before (Comment rest) (λ known. refl) }

pub other_follows : (f : Found) (before : List Line) (text name blanks value : List ℕ) → IsSetting name blanks value → text ≡ name ++ (blanks ++ value) → ((key : Key) → name ≢ spelled key) → Tracks f before → Follows before text f
other_follows f before text name blanks value setting is none t = record {
  line = Setting name blanks value;
  text_of = is;
  may = record { line_of = (setting, λ known same. absurd (none known same)); new = λ known same. absurd (none known same) };
  tracks = t ∙ values_kept before (Setting name blanks value) (λ known. no_value known name blanks value (none known));
}

module _ (f : Found) (before : List Line) (text name blanks value : List ℕ) (key : Key) (setting : IsSetting name blanks value) (is : text ≡ name ++ (blanks ++ value)) (names : name ≡ spelled key) (t : Tracks f before) where
  in_shown : value_in (shown f) key ≡ value_of key before
  in_shown = ap (λ v. value_in v key) t ∙ in_values key before

  key_follows : (g : Found) → Takes (shown f) (shown g) key value → Follows before text g
  key_follows g takes =
      let absent : value_of key before ≡ None = sym in_shown ∙ takes.absent in record {
        line = Setting name blanks value;
        text_of = is;
        may = record {
          line_of = (setting, λ known same. subst (λ k. Fits k value) (spelled_one key known (sym names ∙ same)) takes.fits);
          new = λ known same. subst (λ k. value_of k before ≡ None) (spelled_one key known (sym names ∙ same)) absent;
        };
        tracks = takes.taken ∙ ap (λ v. with_value v key value) t ∙ values_with before key name blanks value names absent;
      }

  key_refused : BeginsSetting text → Refuses (shown f) key value → MayNot before text
  key_refused begins refuses Blank e may = subst BeginsSetting e begins
  key_refused begins refuses (Comment rest) e may = subst BeginsSetting e begins refl
  key_refused begins refuses (Setting k b v) e may =
      let same = one_setting k b v name blanks value may.line_of.0 setting (sym e ∙ is) in
      let k_is : k ≡ spelled key = same.0 ∙ names in
      refuses (subst (Fits key) same.2 (may.line_of.1 key k_is)) (in_shown ∙ may.new key k_is)

  pub key_taken : BeginsSetting text → (r : Option Found) → MatchOption r (Refuses (shown f) key value) (λ g. Takes (shown f) (shown g) key value) → MatchOption r (MayNot before text) (Follows before text)
  key_taken begins None refuses = key_refused begins refuses
  key_taken begins (Some g) takes = key_follows g takes

pub no_line : (before : List Line) (text : List ℕ) → BeginsSetting text → ((key blanks value : List ℕ) → IsSetting key blanks value → text ≢ key ++ (blanks ++ value)) → MayNot before text
no_line before text begins none Blank e may = subst BeginsSetting e begins
no_line before text begins none (Comment rest) e may = subst BeginsSetting e begins refl
no_line before text begins none (Setting k b v) e may = none k b v may.line_of.0 e

-- ---- values of sound lines

fits_in : (known : Key) (before lines : List Line) → GoOn before lines → IfSome (value_of known lines) (Fits known)
unfolding value_of
fits_in known before [] on = tt
fits_in known before (Blank ∷ lines) on = fits_in known (before ++ Blank ∷ []) lines on.1
fits_in known before (Comment text ∷ lines) on = fits_in known (before ++ Comment text ∷ []) lines on.1
fits_in known before (Setting key blanks value ∷ lines) on = by (same_name key (spelled known)) refl (fits_in known (before ++ Setting key blanks value ∷ []) lines on.1)
  where
    by : (t : Bool) → same_name key (spelled known) ≡ t → IfSome (value_of known lines) (Fits known) → IfSome (value_of known (Setting key blanks value ∷ lines)) (Fits known)
    by true same rest =
        let is = (bytes_eq-Decides key (spelled known)).0 same in
        subst (λ o. IfSome o (Fits known)) (sym (own_value known key blanks value lines is)) (on.0.line_of.1 known is)
    by false same rest =
        subst (λ o. IfSome o (Fits known)) (sym (other_value known key blanks value lines (λ is. let h : true ≡ false = sym ((bytes_eq-Decides key (spelled known)).1 is) ∙ same in cc))) rest

pub texts_in : (f : Found) (lines : List Line) → Tracks f lines → AreSound lines → AreTexts (shown f)
texts_in f lines t sound = subst AreTexts (sym t) (record {
  title = fits_in Title [] lines sound;
  options = fits_in Options [] lines sound;
  linux = fits_in Linux [] lines sound;
  initrd = fits_in Initrd [] lines sound;
})
