-- The members of a commit.
use Rattle.std.proofs.Common.{◌≡◌, ℕ, ◌<◌, ◌^◌, List, [], ◌∷◌, length, get_or, Option, Some, None, true, refl, sym, ap, ap₂, ◌∙◌, arith}
use Rattle.std.specs.Prelude.{option_and_then, Result, Ok, Err, IfOk}
use Rattle.ost_types.specs.declared.memory.NoMemory.{NoMemory}
use Rattle.std.specs.Option.{is_some}
use Rattle.std.proofs.lemmas.Bool.{eqb-true}
use Rattle.std.specs.Int.{w64, to_be_bytes}
use Rattle.gv_core.proofs.Sizes.{bind_some, is_some_at}
use Rattle.gv_core.specs.Measure.{fixed}
use Rattle.gv_core.specs.Layout.{text_bytes}
use Rattle.gv_core.specs.Tree.{Tree}
use Rattle.gv_core.specs.Container.{container_form}
use Rattle.ost_forms.specs.declared.object_type.ObjectType.TheVariants as types
use Rattle.ost_forms.specs.TypeText.{type_text}
use Rattle.ost_forms.specs.Commit.{CommitParts, parent_bytes, metadata_form, related_form, commit_form}
use Rattle.ost_forms.proofs.Types.{AreSized, members_sized, sized_count, commit_kinds}
use Rattle.ost_forms.proofs.Parts.{Slice, slices, IsAt, slices_cons, two_are, count_of}
use Rattle.ost_forms.proofs.Headers.{six_are}

pub eight_are : (ps : List Slice) (a b c d e f g h : Slice) → length ps ≡ 8 → IsAt ps 0 a → IsAt ps 1 b → IsAt ps 2 c → IsAt ps 3 d → IsAt ps 4 e → IsAt ps 5 f → IsAt ps 6 g → IsAt ps 7 h
    → slices ps ≡ a.now ∷ b.now ∷ c.now ∷ d.now ∷ e.now ∷ f.now ∷ g.now ∷ h.now ∷ []
eight_are [] a b c d e f g h n p q r s t u v w = absurd (omega (arith, n))
eight_are (x ∷ []) a b c d e f g h n p q r s t u v w = absurd (omega (arith, n))
eight_are (x ∷ y ∷ ps) a b c d e f g h n p q r s t u v w = slices_cons a x (y ∷ ps) _ p (slices_cons b y ps _ q (six_are ps c d e f g h (omega (arith, n)) r s t u v w))

pub commit_count : (ps : List Slice) (bytes : List ℕ) → container_form (type_text types.Commit) (slices ps) ≡ Some bytes → length ps ≡ 8
commit_count ps bytes e = let s = members_sized types.Commit commit_kinds (slices ps) bytes refl e in count_of ps 8 (sized_count commit_kinds (slices ps) s)

-- the sixth is a number
long_at : (ps : List Slice) → AreSized commit_kinds (slices ps) → (a : Slice) → IsAt ps 5 a → length a.now ≡ 8
unfolding fixed
long_at [] h a is = absurd h
long_at (x ∷ []) h a is = absurd h.1
long_at (x ∷ y ∷ []) h a is = absurd h.1.1
long_at (x ∷ y ∷ z ∷ []) h a is = absurd h.1.1.1
long_at (x ∷ y ∷ z ∷ v ∷ []) h a is = absurd h.1.1.1.1
long_at (x ∷ y ∷ z ∷ v ∷ w ∷ []) h a is = absurd h.1.1.1.1.1
long_at (x ∷ y ∷ z ∷ v ∷ w ∷ u ∷ ps) h a is = ap (λ s. length s.now) is ∙ eqb-true _ _ h.1.1.1.1.1.0

pub commit_number : (ps : List Slice) (bytes : List ℕ) (a : Slice) → container_form (type_text types.Commit) (slices ps) ≡ Some bytes → IsAt ps 5 a → length a.now ≡ 8
commit_number ps bytes a e is = long_at ps (members_sized types.Commit commit_kinds (slices ps) bytes refl e) a is

-- the bytes of each member of a commit
pub record CommitMembers (c : CommitParts) (m r s b bytes : List ℕ) : Type 0 where
  pub metadata : metadata_form c.metadata ≡ Some m
  pub related : related_form c.related ≡ Some r
  pub subject : text_bytes c.subject ≡ Some s
  pub body : text_bytes c.body ≡ Some b
  pub whole : container_form (type_text types.Commit) (m ∷ c.parent ∷ r ∷ s ∷ b ∷ to_be_bytes w64 c.time ∷ c.tree ∷ c.meta ∷ []) ≡ Some bytes

abbrev pub HasMembers : CommitParts → List ℕ → Type 0
HasMembers c bytes = (m : List ℕ) × (r : List ℕ) × (s : List ℕ) × (b : List ℕ) × CommitMembers c m r s b bytes

abbrev with_body : List ℕ → List ℕ → CommitParts → List ℕ → List ℕ → Option (List ℕ)
with_body m r c s b = container_form (type_text types.Commit) (m ∷ c.parent ∷ r ∷ s ∷ b ∷ to_be_bytes w64 c.time ∷ c.tree ∷ c.meta ∷ [])

abbrev with_texts : List ℕ → CommitParts → List ℕ → Option (List ℕ)
with_texts m c r = option_and_then (λ s. option_and_then (with_body m r c s) (text_bytes c.body)) (text_bytes c.subject)

pub commit_members : (c : CommitParts) (bytes : List ℕ) → commit_form c ≡ Some bytes → HasMembers c bytes
commit_members c bytes e =
    let p = bind_some (metadata_form c.metadata) (λ m. option_and_then (with_texts m c) (related_form c.related)) bytes e in
    let q = bind_some (related_form c.related) (with_texts p.0 c) bytes p.2 in
    let s = bind_some (text_bytes c.subject) (λ s. option_and_then (with_body p.0 q.0 c s) (text_bytes c.body)) bytes q.2 in
    let b = bind_some (text_bytes c.body) (with_body p.0 q.0 c s.0) bytes s.2 in
    (p.0, q.0, s.0, b.0, record { metadata = p.1; related = q.1; subject = s.1; body = b.1; whole = b.2 })

-- what a part of each commit is, from the members that make these bytes
module _ (rs : List (List ℕ)) (bytes : List ℕ) (own : (qs : List (List ℕ)) → container_form (type_text types.Commit) qs ≡ Some bytes → rs ≡ qs) (c : CommitParts) (e : commit_form c ≡ Some bytes) where
  pub commit_metadata : (x : List ℕ) → get_or rs 0 [] ≡ x → (v : Tree) × (metadata_form v ≡ Some x)
  commit_metadata x is = let p = commit_members c bytes e in
      let same : p.0 ≡ x = ap (λ rs. get_or rs 0 []) (sym (own _ p.4.whole)) ∙ is in
      (c.metadata, p.4.metadata ∙ ap Some same)

  pub commit_related : (x : List ℕ) → get_or rs 2 [] ≡ x → (v : Tree) × (related_form v ≡ Some x)
  commit_related x is = let p = commit_members c bytes e in
      let same : p.1 ≡ x = ap (λ rs. get_or rs 2 []) (sym (own _ p.4.whole)) ∙ is in
      (c.related, p.4.related ∙ ap Some same)

  pub commit_subject : (x : List ℕ) → get_or rs 3 [] ≡ x → (s : List ℕ) × (text_bytes s ≡ Some x)
  commit_subject x is = let p = commit_members c bytes e in
      let same : p.2 ≡ x = ap (λ rs. get_or rs 3 []) (sym (own _ p.4.whole)) ∙ is in
      (c.subject, p.4.subject ∙ ap Some same)

  pub commit_body : (x : List ℕ) → get_or rs 4 [] ≡ x → (s : List ℕ) × (text_bytes s ≡ Some x)
  commit_body x is = let p = commit_members c bytes e in
      let same : p.3 ≡ x = ap (λ rs. get_or rs 4 []) (sym (own _ p.4.whole)) ∙ is in
      (c.body, p.4.body ∙ ap Some same)

-- the commit that was read, or is written, has these bytes
pub commit_found : (c : CommitParts) (rs : List (List ℕ)) (m r s b bytes : List ℕ) → rs ≡ m ∷ c.parent ∷ r ∷ s ∷ b ∷ to_be_bytes w64 c.time ∷ c.tree ∷ c.meta ∷ []
    → metadata_form c.metadata ≡ Some m → related_form c.related ≡ Some r → text_bytes c.subject ≡ Some s → text_bytes c.body ≡ Some b
    → container_form (type_text types.Commit) rs ≡ Some bytes → commit_form c ≡ Some bytes
commit_found c rs m r s b bytes is e f g h whole = rw (e, f, g, h) (ap (container_form (type_text types.Commit)) (sym is) ∙ whole)

pub commit_joined : (c : CommitParts) (o : Result (List ℕ) NoMemory) (m r s b : List ℕ)
    → metadata_form c.metadata ≡ Some m → related_form c.related ≡ Some r → text_bytes c.subject ≡ Some s → text_bytes c.body ≡ Some b
    → IfOk o (λ bytes. container_form (type_text types.Commit) (m ∷ c.parent ∷ r ∷ s ∷ b ∷ to_be_bytes w64 c.time ∷ c.tree ∷ c.meta ∷ []) ≡ Some bytes) → IfOk o (λ bytes. commit_form c ≡ Some bytes)
commit_joined c (Ok bytes) m r s b e f g h whole = commit_found c _ m r s b bytes refl e f g h whole
commit_joined c (Err n) m r s b e f g h whole = tt

-- a commit that has a form has one of its metadata and one of its related objects
pub values_fit : (c : CommitParts) → is_some (commit_form c) ≡ true → (is_some (metadata_form c.metadata) ≡ true) × (is_some (related_form c.related) ≡ true)
values_fit c e = go (commit_form c) refl e
  where
    go : (o : Option (List ℕ)) → commit_form c ≡ o → is_some o ≡ true → (is_some (metadata_form c.metadata) ≡ true) × (is_some (related_form c.related) ≡ true)
    go None f e = absurd cc
    go (Some bytes) f e = let p = commit_members c bytes f in (is_some_at _ p.0 p.4.metadata, is_some_at _ p.1 p.4.related)
