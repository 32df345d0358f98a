-- What has some bytes as its form is one thing, where its numbers have their width.
use Rattle.std.proofs.Common.{◌≡◌, ℕ, ◌<◌, ◌^◌, List, [], ◌∷◌, ◌++◌, Option, Some, refl, sym, ap, ap₂, ◌∙◌}
use Rattle.std.specs.Prelude.{option_and_then}
use Rattle.std.specs.Int.{w32, w64, to_be_bytes, from_be_bytes}
use Rattle.std.proofs.lemmas.Nat.{from_be_bytes-to_be_bytes_4, from_be_bytes-to_be_bytes_8}
use Rattle.gv_core.specs.Container.{container_form}
use Rattle.gv_core.specs.Layout.{text_bytes, normal_form}
use Rattle.gv_core.specs.Tree.{Tree}
use Rattle.gv_core.proofs.Sizes.{bind_some}
use Rattle.gv_core.proofs.Inverse.{one_value}
use Rattle.ost_types.specs.declared.meta.Meta.{Meta}
use Rattle.ost_types.specs.declared.meta.Xattr.{Xattr}
use Rattle.ost_forms.specs.declared.body.Header.{Header}
use Rattle.ost_forms.specs.declared.object_type.ObjectType.{ObjectType}
use Rattle.ost_forms.specs.declared.object_type.ObjectType.TheVariants as types
use Rattle.ost_forms.specs.TypeText.{type_text}
use Rattle.ost_forms.specs.Rows.{xattrs_form}
use Rattle.ost_forms.specs.DirMeta.{dirmeta_form}
use Rattle.ost_forms.specs.Stream.{header_form, IsHeader}
use Rattle.ost_forms.specs.Commit.{CommitParts, inner_form, commit_form}
use Rattle.ost_forms.proofs.Types.{kind_at, type_kind}
use Rattle.ost_forms.proofs.Alone.{inner_is}
use Rattle.ost_forms.proofs.Commits.{commit_members}
use Rattle.ost_forms.proofs.Laws.{one_container, one_text, one_xattrs}

pub one_32 : (a b : ℕ) → a < 2 ^ 32 → b < 2 ^ 32 → to_be_bytes w32 a ≡ to_be_bytes w32 b → a ≡ b
one_32 a b p q e = sym (from_be_bytes-to_be_bytes_4 a p) ∙ ap (from_be_bytes w32) e ∙ from_be_bytes-to_be_bytes_4 b q

pub one_64 : (a b : ℕ) → a < 2 ^ 64 → b < 2 ^ 64 → to_be_bytes w64 a ≡ to_be_bytes w64 b → a ≡ b
one_64 a b p q e = sym (from_be_bytes-to_be_bytes_8 a p) ∙ ap (from_be_bytes w64) e ∙ from_be_bytes-to_be_bytes_8 b q

one_inner : (t : ObjectType) (v w : Tree) (b : List ℕ) → inner_form (type_text t) v ≡ Some b → inner_form (type_text t) w ≡ Some b → v ≡ w
one_inner t v w b e f = one_value (type_text t) (kind_at t) v w b (type_kind t) (inner_is _ v b e) (inner_is _ w b f)

-- the first of two lists, and what is behind it
head_is : (a b : List ℕ) (rs qs : List (List ℕ)) → a ∷ rs ≡ b ∷ qs → (a ≡ b) × (rs ≡ qs)
head_is a b rs qs e = let h : a ≡ b = cc in let t : rs ≡ qs = cc in (h, t)

same_meta : (x y : Meta) → x.uid ≡ y.uid → x.gid ≡ y.gid → x.mode ≡ y.mode → x.xattrs ≡ y.xattrs → x ≡ y
same_meta x y a b c d =
    ap (λ (p : (ℕ × ℕ) × (ℕ × List Xattr)). let r : Meta = record { uid = p.0.0; gid = p.0.1; mode = p.1.0; xattrs = p.1.1 } in r)
    (ap₂ (λ (p : ℕ × ℕ) (q : ℕ × List Xattr). (p, q)) (ap₂ (λ (p : ℕ) (q : ℕ). (p, q)) a b) (ap₂ (λ (p : ℕ) (q : List Xattr). (p, q)) c d))

-- the numbers of attributes have 32 bits
pub record IsWide (m : Meta) : Type 0 where
  pub uid : m.uid < 2 ^ 32
  pub gid : m.gid < 2 ^ 32
  pub mode : m.mode < 2 ^ 32

pub one_dirmeta : (x y : Meta) (bytes : List ℕ) → IsWide x → IsWide y → dirmeta_form x ≡ Some bytes → dirmeta_form y ≡ Some bytes → x ≡ y
one_dirmeta x y bytes g h e f =
    let p = bind_some (xattrs_form x.xattrs) (λ xs. container_form (type_text types.DirMeta) (to_be_bytes w32 x.uid ∷ to_be_bytes w32 x.gid ∷ to_be_bytes w32 x.mode ∷ xs ∷ [])) bytes e in
    let q = bind_some (xattrs_form y.xattrs) (λ xs. container_form (type_text types.DirMeta) (to_be_bytes w32 y.uid ∷ to_be_bytes w32 y.gid ∷ to_be_bytes w32 y.mode ∷ xs ∷ [])) bytes f in
    let rows = one_container types.DirMeta _ _ bytes p.2 q.2 in
    let a = head_is _ _ _ _ rows in
    let b = head_is _ _ _ _ a.1 in
    let c = head_is _ _ _ _ b.1 in
    let d = head_is _ _ _ _ c.1 in
    same_meta x y (one_32 _ _ g.uid h.uid a.0) (one_32 _ _ g.gid h.gid b.0) (one_32 _ _ g.mode h.mode c.0) (one_xattrs x.xattrs y.xattrs q.0 (p.1 ∙ ap Some d.0) q.1)

same_header : (x y : Header) → x.meta ≡ y.meta → x.rdev ≡ y.rdev → x.target ≡ y.target → x ≡ y
same_header x y m n t =
    ap (λ (p : Meta × (ℕ × List ℕ)). let r : Header = record { meta = p.0; rdev = p.1.0; target = p.1.1 } in r)
    (ap₂ (λ (m : Meta) (z : ℕ × List ℕ). (m, z)) m (ap₂ (λ (n : ℕ) (z : List ℕ). (n, z)) n t))

pub one_header : (x y : Header) (bytes : List ℕ) → IsHeader x → IsHeader y → header_form x ≡ Some bytes → header_form y ≡ Some bytes → x ≡ y
one_header x y bytes g h e f =
    let p = bind_some (text_bytes x.target) (λ t. option_and_then (λ xs. container_form (type_text types.Header) (to_be_bytes w32 x.meta.uid ∷ to_be_bytes w32 x.meta.gid ∷ to_be_bytes w32 x.meta.mode ∷ to_be_bytes w32 x.rdev ∷ t ∷ xs ∷ [])) (xattrs_form x.meta.xattrs)) bytes e in
    let p2 = bind_some (xattrs_form x.meta.xattrs) (λ xs. container_form (type_text types.Header) (to_be_bytes w32 x.meta.uid ∷ to_be_bytes w32 x.meta.gid ∷ to_be_bytes w32 x.meta.mode ∷ to_be_bytes w32 x.rdev ∷ p.0 ∷ xs ∷ [])) bytes p.2 in
    let q = bind_some (text_bytes y.target) (λ t. option_and_then (λ xs. container_form (type_text types.Header) (to_be_bytes w32 y.meta.uid ∷ to_be_bytes w32 y.meta.gid ∷ to_be_bytes w32 y.meta.mode ∷ to_be_bytes w32 y.rdev ∷ t ∷ xs ∷ [])) (xattrs_form y.meta.xattrs)) bytes f in
    let q2 = bind_some (xattrs_form y.meta.xattrs) (λ xs. container_form (type_text types.Header) (to_be_bytes w32 y.meta.uid ∷ to_be_bytes w32 y.meta.gid ∷ to_be_bytes w32 y.meta.mode ∷ to_be_bytes w32 y.rdev ∷ q.0 ∷ xs ∷ [])) bytes q.2 in
    let rows = one_container types.Header _ _ bytes p2.2 q2.2 in
    let a = head_is _ _ _ _ rows in
    let b = head_is _ _ _ _ a.1 in
    let c = head_is _ _ _ _ b.1 in
    let d = head_is _ _ _ _ c.1 in
    let t = head_is _ _ _ _ d.1 in
    let s = head_is _ _ _ _ t.1 in
    same_header x y (same_meta x.meta y.meta (one_32 _ _ g.uid h.uid a.0) (one_32 _ _ g.gid h.gid b.0) (one_32 _ _ g.mode h.mode c.0) (one_xattrs x.meta.xattrs y.meta.xattrs q2.0 (p2.1 ∙ ap Some s.0) q2.1))
    (one_32 _ _ g.rdev h.rdev d.0)
    (one_text x.target y.target q.0 (p.1 ∙ ap Some t.0) q.1)

abbrev Sums : Type 0
Sums = (List ℕ × List ℕ) × (List ℕ × ℕ)

abbrev Texts : Type 0
Texts = (List ℕ × List ℕ) × (Tree × Tree)

same_commit : (c d : CommitParts) → c.metadata ≡ d.metadata → c.parent ≡ d.parent → c.related ≡ d.related → c.subject ≡ d.subject → c.body ≡ d.body → c.time ≡ d.time → c.tree ≡ d.tree → c.meta ≡ d.meta → c ≡ d
same_commit x y m p r s b n t u =
    ap (λ (z : Texts × Sums). let c : CommitParts = record { metadata = z.0.1.0; parent = z.1.1.0; related = z.0.1.1; subject = z.0.0.0; body = z.0.0.1; time = z.1.1.1; tree = z.1.0.0; meta = z.1.0.1 } in c)
    (ap₂ (λ (a : Texts) (b : Sums). (a, b))
    (ap₂ (λ (a : List ℕ × List ℕ) (b : Tree × Tree). (a, b)) (ap₂ (λ (a : List ℕ) (b : List ℕ). (a, b)) s b) (ap₂ (λ (a : Tree) (b : Tree). (a, b)) m r))
    (ap₂ (λ (a : List ℕ × List ℕ) (b : List ℕ × ℕ). (a, b)) (ap₂ (λ (a : List ℕ) (b : List ℕ). (a, b)) t u) (ap₂ (λ (a : List ℕ) (b : ℕ). (a, b)) p n)))

pub one_commit : (c d : CommitParts) (bytes : List ℕ) → c.time < 2 ^ 64 → d.time < 2 ^ 64 → commit_form c ≡ Some bytes → commit_form d ≡ Some bytes → c ≡ d
one_commit x y bytes g h i j =
    let p = (commit_members x bytes i).4 in
    let q = (commit_members y bytes j).4 in
    let rows = one_container types.Commit _ _ bytes p.whole q.whole in
    let a = head_is _ _ _ _ rows in
    let b = head_is _ _ _ _ a.1 in
    let c = head_is _ _ _ _ b.1 in
    let d = head_is _ _ _ _ c.1 in
    let e = head_is _ _ _ _ d.1 in
    let f = head_is _ _ _ _ e.1 in
    let t = head_is _ _ _ _ f.1 in
    let u = head_is _ _ _ _ t.1 in
    same_commit x y
    (one_inner types.Metadata x.metadata y.metadata _ (p.metadata ∙ ap Some a.0) q.metadata)
    b.0
    (one_inner types.Related x.related y.related _ (p.related ∙ ap Some c.0) q.related)
    (one_text x.subject y.subject _ (p.subject ∙ ap Some d.0) q.subject)
    (one_text x.body y.body _ (p.body ∙ ap Some e.0) q.body)
    (one_64 _ _ g h f.0)
    t.0
    u.0
