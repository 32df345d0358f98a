-- The keys differ from one another, and the value of each is known line by line.
use Rattle.std.proofs.Common.{◌≡◌, ◌≢◌, ℕ, Bool, true, false, if◌then◌else◌, List, [], ◌∷◌, ◌++◌, Option, Some, None, refl, sym, ◌∙◌, ap, subst}
use Rattle.std.proofs.lemmas.Slice.Eq.{bytes_eq-Decides}
use Rattle.ost_types.specs.Path.{same_name}
use Rattle.bls_entry.specs.declared.key.Key.{Key}
use Rattle.bls_entry.specs.declared.key.Key.TheVariants.{Title, Version, Options, Linux, Initrd}
use Rattle.bls_entry.specs.Line.{Line, spelled}
use Rattle.bls_entry.specs.Line.Line.{Blank, Comment, Setting}
use Rattle.bls_entry.specs.Entry.{value_of}
use Rattle.bls_entry.specs.Tracks.{Values, value_in, values_of, with_value}

apart : (x y : List ℕ) → same_name x y ≡ false → x ≡ y → ⊥
apart x y other e = let t : true ≡ false = sym ((bytes_eq-Decides x y).1 e) ∙ other in cc

pub spelled_one : (a b : Key) → spelled a ≡ spelled b → a ≡ b
spelled_one Title Title e = refl
spelled_one Title Version e = absurd (apart (spelled Title) (spelled Version) refl e)
spelled_one Title Options e = absurd (apart (spelled Title) (spelled Options) refl e)
spelled_one Title Linux e = absurd (apart (spelled Title) (spelled Linux) refl e)
spelled_one Title Initrd e = absurd (apart (spelled Title) (spelled Initrd) refl e)
spelled_one Version Title e = absurd (apart (spelled Version) (spelled Title) refl e)
spelled_one Version Version e = refl
spelled_one Version Options e = absurd (apart (spelled Version) (spelled Options) refl e)
spelled_one Version Linux e = absurd (apart (spelled Version) (spelled Linux) refl e)
spelled_one Version Initrd e = absurd (apart (spelled Version) (spelled Initrd) refl e)
spelled_one Options Title e = absurd (apart (spelled Options) (spelled Title) refl e)
spelled_one Options Version e = absurd (apart (spelled Options) (spelled Version) refl e)
spelled_one Options Options e = refl
spelled_one Options Linux e = absurd (apart (spelled Options) (spelled Linux) refl e)
spelled_one Options Initrd e = absurd (apart (spelled Options) (spelled Initrd) refl e)
spelled_one Linux Title e = absurd (apart (spelled Linux) (spelled Title) refl e)
spelled_one Linux Version e = absurd (apart (spelled Linux) (spelled Version) refl e)
spelled_one Linux Options e = absurd (apart (spelled Linux) (spelled Options) refl e)
spelled_one Linux Linux e = refl
spelled_one Linux Initrd e = absurd (apart (spelled Linux) (spelled Initrd) refl e)
spelled_one Initrd Title e = absurd (apart (spelled Initrd) (spelled Title) refl e)
spelled_one Initrd Version e = absurd (apart (spelled Initrd) (spelled Version) refl e)
spelled_one Initrd Options e = absurd (apart (spelled Initrd) (spelled Options) refl e)
spelled_one Initrd Linux e = absurd (apart (spelled Initrd) (spelled Linux) refl e)
spelled_one Initrd Initrd e = refl

-- the first, or else the second
abbrev pub or_else : Option (List ℕ) → Option (List ℕ) → Option (List ℕ)
or_else None o = o
or_else (Some x) o = Some x

or_none : (o : Option (List ℕ)) → or_else o None ≡ o
or_none None = refl
or_none (Some x) = refl

pub value_of-push : (known : Key) (before : List Line) (line : Line) → value_of known (before ++ line ∷ []) ≡ or_else (value_of known before) (value_of known (line ∷ []))
unfolding value_of
value_of-push known [] line = refl
value_of-push known (Blank ∷ before) line = value_of-push known before line
value_of-push known (Comment text ∷ before) line = value_of-push known before line
value_of-push known (Setting key blanks value ∷ before) line = by (same_name key (spelled known)) (value_of known (before ++ line ∷ [])) (value_of known before) (value_of known (line ∷ [])) (value_of-push known before line)
  where
    by : (t : Bool) (new old last : Option (List ℕ)) → new ≡ or_else old last → (if t then Some value else new) ≡ or_else (if t then Some value else old) last
    by true new old last e = refl
    by false new old last e = e

-- a line of no key that is read says nothing
pub no_value : (known : Key) (key blanks value : List ℕ) → key ≢ spelled known → value_of known (Setting key blanks value ∷ []) ≡ None
unfolding value_of
no_value known key blanks value other = by (same_name key (spelled known)) refl
  where
    by : (t : Bool) → same_name key (spelled known) ≡ t → (if t then Some value else None) ≡ None
    by true is = absurd (other ((bytes_eq-Decides key (spelled known)).0 is))
    by false is = refl

pub own_value : (known : Key) (key blanks value : List ℕ) (lines : List Line) → key ≡ spelled known → value_of known (Setting key blanks value ∷ lines) ≡ Some value
unfolding value_of
own_value known key blanks value lines same = ap (λ t. if t then Some value else value_of known lines) ((bytes_eq-Decides key (spelled known)).1 same)

pub other_value : (known : Key) (key blanks value : List ℕ) (lines : List Line) → key ≢ spelled known → value_of known (Setting key blanks value ∷ lines) ≡ value_of known lines
unfolding value_of
other_value known key blanks value lines other = by (same_name key (spelled known)) refl
  where
    by : (t : Bool) → same_name key (spelled known) ≡ t → (if t then Some value else value_of known lines) ≡ value_of known lines
    by true is = absurd (other ((bytes_eq-Decides key (spelled known)).0 is))
    by false is = refl

abbrev values : Option (List ℕ) → Option (List ℕ) → Option (List ℕ) → Option (List ℕ) → Option (List ℕ) → Values
values t v o l i = record { title = t; version = v; options = o; linux = l; initrd = i }

values_same : (a b : Values) → ((known : Key) → value_in a known ≡ value_in b known) → a ≡ b
values_same a b same =
    ap (λ t. values t a.version a.options a.linux a.initrd) (same Title)
    ∙ ap (λ v. values b.title v a.options a.linux a.initrd) (same Version)
    ∙ ap (λ o. values b.title b.version o a.linux a.initrd) (same Options)
    ∙ ap (λ l. values b.title b.version b.options l a.initrd) (same Linux)
    ∙ ap (λ i. values b.title b.version b.options b.linux i) (same Initrd)

pub in_values : (known : Key) (lines : List Line) → value_in (values_of lines) known ≡ value_of known lines
in_values Title lines = refl
in_values Version lines = refl
in_values Options lines = refl
in_values Linux lines = refl
in_values Initrd lines = refl

-- a line that says nothing leaves all values
pub values_kept : (before : List Line) (line : Line) → ((known : Key) → value_of known (line ∷ []) ≡ None) → values_of before ≡ values_of (before ++ line ∷ [])
values_kept before line none =
    values_same (values_of before) (values_of (before ++ line ∷ []))
    (λ known. in_values known before ∙ sym (in_values known (before ++ line ∷ []) ∙ value_of-push known before line ∙ ap (λ o. or_else (value_of known before) o) (none known) ∙ or_none (value_of known before)))

in_with : (v : Values) (key known : Key) (value : List ℕ) → key ≢ known → value_in (with_value v key value) known ≡ value_in v known
in_with v Title Title value other = absurd (other refl)
in_with v Title Version value other = refl
in_with v Title Options value other = refl
in_with v Title Linux value other = refl
in_with v Title Initrd value other = refl
in_with v Version Title value other = refl
in_with v Version Version value other = absurd (other refl)
in_with v Version Options value other = refl
in_with v Version Linux value other = refl
in_with v Version Initrd value other = refl
in_with v Options Title value other = refl
in_with v Options Version value other = refl
in_with v Options Options value other = absurd (other refl)
in_with v Options Linux value other = refl
in_with v Options Initrd value other = refl
in_with v Linux Title value other = refl
in_with v Linux Version value other = refl
in_with v Linux Options value other = refl
in_with v Linux Linux value other = absurd (other refl)
in_with v Linux Initrd value other = refl
in_with v Initrd Title value other = refl
in_with v Initrd Version value other = refl
in_with v Initrd Options value other = refl
in_with v Initrd Linux value other = refl
in_with v Initrd Initrd value other = absurd (other refl)

own_with : (v : Values) (key : Key) (value : List ℕ) → value_in (with_value v key value) key ≡ Some value
own_with v Title value = refl
own_with v Version value = refl
own_with v Options value = refl
own_with v Linux value = refl
own_with v Initrd value = refl

-- a line of a key that was new gives it its value
pub values_with : (before : List Line) (key : Key) (name blanks value : List ℕ) → name ≡ spelled key → value_of key before ≡ None → with_value (values_of before) key value ≡ values_of (before ++ Setting name blanks value ∷ [])
values_with before key name blanks value is absent =
    values_same (with_value (values_of before) key value) (values_of (before ++ Setting name blanks value ∷ []))
    (λ known. by known (same_name name (spelled known)) refl ∙ sym (in_values known (before ++ Setting name blanks value ∷ []) ∙ value_of-push known before (Setting name blanks value)))
  where
    by : (known : Key) (t : Bool) → same_name name (spelled known) ≡ t → value_in (with_value (values_of before) key value) known ≡ or_else (value_of known before) (value_of known (Setting name blanks value ∷ []))
    by known true same =
        let there = (bytes_eq-Decides name (spelled known)).0 same in
        let e : key ≡ known = spelled_one key known (sym is ∙ there) in
        subst (λ k. value_in (with_value (values_of before) key value) k ≡ or_else (value_of k before) (value_of k (Setting name blanks value ∷ []))) e
        (own_with (values_of before) key value ∙ sym (ap (λ o. or_else o (value_of key (Setting name blanks value ∷ []))) absent ∙ own_value key name blanks value [] is))
    by known false same =
        let other : name ≢ spelled known = apart name (spelled known) same in
        in_with (values_of before) key known value (λ e. other (is ∙ ap spelled e))
        ∙ in_values known before ∙ sym (ap (λ o. or_else (value_of known before) o) (no_value known name blanks value other) ∙ or_none (value_of known before))
