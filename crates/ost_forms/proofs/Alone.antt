-- The only member of a tuple has the tuple's bytes.
use Rattle.std.proofs.Common.{◌≡◌, ℕ, suc, ◌+◌, ◌*◌, ◌<◌, ◌≤◌, ◌^◌, max, Bool, true, false, cond, leb, ltb, List, [], ◌∷◌, ◌++◌, length, replicate, Option, Some, None, refl, sym, ap, subst, ◌∙◌, arith, inl, inr, rules, Vec, Global}
use Rattle.std.specs.Prelude.{option_and_then, ◌&&◌}
use Rattle.std.specs.Option.{is_some}
use Rattle.std.proofs.lemmas.Bool.{cond-true, cond-false, lt-ltb, le-leb, leb-true}
use Rattle.std.proofs.lemmas.List.{append-nil}
use Rattle.gv_core.specs.Kind.{Kind, Kinds, basic, variant, array, tuple, entry, no_kinds, kind, variant_kind}
use Rattle.gv_core.specs.Measure.{fixed, alignment, gap}
use Rattle.gv_core.specs.declared.value.Value.{Value, Array, the_lemmas}
use Rattle.gv_core.specs.Gives.{views}
use Rattle.gv_core.specs.Tree.{Tree, Trees, view}
use Rattle.gv_core.specs.Tree as t
use Rattle.gv_core.specs.Layout.{Part, part, body, all_fixed, offset_size, table_back, tuple_of, layout, members, nests, normal_form}
use Rattle.gv_core.proofs.Sizes.{bind_some, some_is, none_some}
use Rattle.ost_forms.specs.declared.object_type.ObjectType.{ObjectType}
use Rattle.ost_forms.specs.declared.object_type.ObjectType.TheVariants as types
use Rattle.ost_forms.specs.TypeText.{type_text}
use Rattle.ost_forms.specs.Commit.{metadata_form, related_form, inner_form, only_of, IsAlone, Holds}
use Rattle.ost_forms.proofs.Types.{if_then, kind_at, type_kind, metadata, files}

-- values of the kind have many sizes, and begin where a container begins
record IsLoose (k : Kind) : Type 0 where
  pub loose : fixed k ≡ None
  pub level : gap (alignment k) 0 ≡ 0

body_one : (k : Kind) (r : List ℕ) → IsLoose k → body 0 (part k r ∷ []) ≡ r
body_one k r h = ap (λ n. replicate n 0 ++ (r ++ [])) h.level ∙ append-nil r

loose_one : (k : Kind) (r : List ℕ) → IsLoose k → all_fixed (part k r ∷ []) ≡ false
loose_one k r h = ap (λ (o : Option ℕ). is_some o && true) h.loose

some_if : (b : Bool) (x : ℕ) (o : Option ℕ) → (s : ℕ) × (o ≡ Some s) → (s : ℕ) × (cond b (Some x) o ≡ Some s)
some_if true x o h = (x, refl)
some_if false x o h = h

offset_one : (n : ℕ) → n < 2 ^ 64 → (s : ℕ) × (offset_size n 0 ≡ Some s)
unfolding offset_size
offset_one n lt =
    let none : Option ℕ = None in
    let wide : cond (ltb (n + 8 * 0) (2 ^ 64)) (Some 8) none ≡ Some 8 = cond-true _ _ _ (lt-ltb (n + 8 * 0) (2 ^ 64) (omega (arith, lt))) in
    let last : Option ℕ = cond (ltb (n + 8 * 0) (2 ^ 64)) (Some 8) none in
    let third : Option ℕ = cond (ltb (n + 4 * 0) (2 ^ 32)) (Some 4) last in
    let second : Option ℕ = cond (ltb (n + 2 * 0) (2 ^ 16)) (Some 2) third in
    some_if (ltb (n + 0) (2 ^ 8)) 1 second (some_if (ltb (n + 2 * 0) (2 ^ 16)) 2 third (some_if (ltb (n + 4 * 0) (2 ^ 32)) 4 last (8, wide)))

tuple_one : (k : Kind) (r : List ℕ) → IsLoose k → length r < 2 ^ 64 → tuple_of (part k r ∷ []) ≡ Some r
tuple_one k r h lt =
    let same = body_one k r h in
    let o = offset_one (length (body 0 (part k r ∷ []))) (omega (arith, lt, ap length same)) in
    cond-false _ _ _ (loose_one k r h) ∙ ap (option_and_then (λ s. Some (body 0 (part k r ∷ []) ++ table_back s []))) o.1 ∙ ap Some (append-nil _ ∙ same)

tuple_one_is : (k : Kind) (r x : List ℕ) → IsLoose k → tuple_of (part k r ∷ []) ≡ Some x → r ≡ x
tuple_one_is k r x h e =
    let o = bind_some (offset_size (length (body 0 (part k r ∷ []))) 0) (λ s. Some (body 0 (part k r ∷ []) ++ table_back s [])) x (sym (cond-false _ _ _ (loose_one k r h)) ∙ e) in
    sym (append-nil _ ∙ body_one k r h) ∙ some_is _ x o.2

abbrev pub alone : Tree → Tree
alone v = t.tuple (t.tree v t.no_trees)

alone_from : (k : Kind) (v : Tree) (r : List ℕ) → IsLoose k → length r < 2 ^ 64 → layout v k ≡ Some r → layout (alone v) (tuple (kind k no_kinds)) ≡ Some r
unfolding layout
alone_from k v r h lt e = ap (λ (o : Option (List ℕ)). option_and_then tuple_of (option_and_then (λ r. Some (part k r ∷ [])) o)) e ∙ tuple_one k r h lt

alone_to : (k : Kind) (v : Tree) (x : List ℕ) → IsLoose k → layout (alone v) (tuple (kind k no_kinds)) ≡ Some x → layout v k ≡ Some x
unfolding layout
alone_to k v x h e =
    let p = bind_some (option_and_then (λ r. Some (part k r ∷ [])) (layout v k)) tuple_of x e in
    let q = bind_some (layout v k) (λ r. Some (part k r ∷ [])) p.0 p.1 in
    let same : tuple_of (part k q.0 ∷ []) ≡ Some x = ap tuple_of (some_is _ p.0 q.2) ∙ p.2 in
    q.1 ∙ ap Some (tuple_one_is k q.0 x h same)

alone_if : (k : Kind) (w : Tree) (x : List ℕ) → layout w (tuple (kind k no_kinds)) ≡ Some x → (v : Tree) × (w ≡ alone v)
unfolding layout
alone_if k (t.leaf l) x e = none_some x _ e
alone_if k (t.array ts) x e = none_some x _ e
alone_if k (t.tuple t.no_trees) x e = none_some x _ e
alone_if k (t.tuple (t.tree v t.no_trees)) x e = (v, refl)
alone_if k (t.tuple (t.tree v (t.tree w ts))) x e =
    let p = bind_some (option_and_then (λ r. option_and_then (λ ps. Some (part k r ∷ ps)) (members (t.tree w ts) no_kinds)) (layout v k)) tuple_of x e in
    let q = bind_some (layout v k) (λ r. option_and_then (λ ps. Some (part k r ∷ ps)) (members (t.tree w ts) no_kinds)) p.0 p.1 in
    none_some p.0 _ q.2
alone_if k (t.entry a b) x e = none_some x _ e
alone_if k t.nothing x e = none_some x _ e
alone_if k (t.just a) x e = none_some x _ e
alone_if k (t.variant s a) x e = none_some x _ e

-- ---- as forms

record IsAloneAt (whole member : List ℕ) (k : Kind) : Type 0 where
  pub outer : variant_kind whole ≡ Some (tuple (kind k no_kinds))
  pub inner : variant_kind member ≡ Some k
  pub loose : IsLoose k

laid_from : (text : List ℕ) (k : Kind) (v : Tree) (b : List ℕ) → variant_kind text ≡ Some k → nests v ≤ 64 → layout v k ≡ Some b → normal_form text v ≡ Some b
laid_from text k v b is deep e = cond-true _ _ _ (le-leb _ _ deep) ∙ ap (option_and_then (layout v)) is ∙ e

laid_to : (text : List ℕ) (k : Kind) (v : Tree) (b : List ℕ) → variant_kind text ≡ Some k → normal_form text v ≡ Some b → (nests v ≤ 64) × (layout v k ≡ Some b)
laid_to text k v b is e =
    let p = if_then (leb (nests v) 64) (option_and_then (layout v) (variant_kind text)) b e in
    (leb-true _ _ p.0, sym (ap (option_and_then (layout v)) is) ∙ p.1)

module _ (whole member : List ℕ) (k : Kind) (at : IsAloneAt whole member k) where
  inner_from : (v : Tree) (b : List ℕ) → normal_form whole (alone v) ≡ Some b → inner_form member v ≡ Some b
  inner_from v b e =
      let p = laid_to whole (tuple (kind k no_kinds)) (alone v) b at.outer e in
      let deep : nests v ≤ 63 = omega (arith, p.0) in
      let deeper : nests v ≤ 64 = omega (arith, deep) in
      cond-true _ _ _ (le-leb _ _ deep) ∙ laid_from member k v b at.inner deeper (alone_to k v b at.loose p.1)

  inner_to : (v : Tree) (b : List ℕ) → length b < 2 ^ 64 → inner_form member v ≡ Some b → normal_form whole (alone v) ≡ Some b
  inner_to v b lt e =
      let p = if_then (leb (nests v) 63) (normal_form member v) b e in
      let deep : nests v ≤ 63 = leb-true _ _ p.0 in
      let q = laid_to member k v b at.inner p.1 in
      let whole_deep : nests (alone v) ≤ 64 = omega (arith, deep) in
      laid_from whole (tuple (kind k no_kinds)) (alone v) b at.outer whole_deep (alone_from k v b at.loose lt q.1)

  alone_is : (w : Tree) (b : List ℕ) → normal_form whole w ≡ Some b → (v : Tree) × (w ≡ alone v)
  alone_is w b e = alone_if k w b (laid_to whole (tuple (kind k no_kinds)) w b at.outer e).1

loose_metadata : IsLoose metadata
unfolding fixed alignment
loose_metadata = record { loose = refl; level = refl }

loose_files : IsLoose files
unfolding fixed alignment
loose_files = record { loose = refl; level = refl }

alone_at : (whole : ObjectType) → IsAlone whole → (k : Kind) × IsAloneAt (type_text whole) (type_text (only_of whole)) k
alone_at whole (inl e) = subst (λ w. (k : Kind) × IsAloneAt (type_text w) (type_text (only_of w)) k) (sym e) (metadata, record { outer = type_kind types.AloneMetadata; inner = type_kind types.Metadata; loose = loose_metadata })
alone_at whole (inr e) = subst (λ w. (k : Kind) × IsAloneAt (type_text w) (type_text (only_of w)) k) (sym e) (files, record { outer = type_kind types.AloneRelated; inner = type_kind types.Related; loose = loose_files })

-- a tuple that was read has the one member that has these bytes
pub read_one : (whole : ObjectType) (w : Tree) (b : List ℕ) → IsAlone whole → normal_form (type_text whole) w ≡ Some b → (v : Tree) × Holds w v
read_one whole w b h e = let at = alone_at whole h in alone_is _ _ at.0 at.1 w b e

pub member_found : (whole : ObjectType) (w v : Tree) (b : List ℕ) → IsAlone whole → normal_form (type_text whole) w ≡ Some b → Holds w v → inner_form (type_text (only_of whole)) v ≡ Some b
member_found whole w v b h e is = let at = alone_at whole h in inner_from _ _ at.0 at.1 v b (ap (normal_form (type_text whole)) (sym is) ∙ e)

-- each value with these bytes makes such a tuple
pub has_whole : (whole : ObjectType) (b : List ℕ) → IsAlone whole → length b < 2 ^ 64 → (v : Tree) → inner_form (type_text (only_of whole)) v ≡ Some b → (w : Tree) × (normal_form (type_text whole) w ≡ Some b)
has_whole whole b h lt v e = let at = alone_at whole h in (alone v, inner_to _ _ at.0 at.1 v b lt e)

-- a value that has a form inside has the same alone
pub inner_normal : (text : List ℕ) (v : Tree) → is_some (inner_form text v) ≡ true → inner_form text v ≡ normal_form text v
inner_normal text v e = go (leb (nests v) 63) (normal_form text v) e
  where
    go : (b : Bool) (o : Option (List ℕ)) → is_some (cond b o None) ≡ true → cond b o None ≡ o
    go true o e = refl
    go false o e = absurd cc

pub inner_is : (text : List ℕ) (v : Tree) (b : List ℕ) → inner_form text v ≡ Some b → normal_form text v ≡ Some b
inner_is text v b e = (if_then (leb (nests v) 63) (normal_form text v) b e).1

-- the last of a list of values that are one
pub last_member : (all rest : List Value) (x : Value) (v : Tree) → all ≡ rest ++ x ∷ [] → t.tuple (views all) ≡ alone v → t.tuple (views all) ≡ alone (view x)
last_member all [] x v e is = ap (λ vs. t.tuple (views vs)) e
last_member all (y ∷ []) x v e is = let z : t.tuple (t.tree (view y) (t.tree (view x) t.no_trees)) ≡ alone v = sym (ap (λ vs. t.tuple (views vs)) e) ∙ is in absurd cc
last_member all (y ∷ w ∷ rest) x v e is = let z : t.tuple (t.tree (view y) (t.tree (view w) (views (rest ++ x ∷ [])))) ≡ alone v = sym (ap (λ vs. t.tuple (views vs)) e) ∙ is in absurd cc

-- ---- nothing

no_metadata : layout (t.array t.no_trees) metadata ≡ Some []
unfolding layout fixed alignment offset_size
no_metadata = refl

no_related : layout (t.array t.no_trees) files ≡ Some []
unfolding layout fixed alignment offset_size
no_related = refl

seen_empty : (vs : Vec Value Global) → vs.items ≡ [] → view (Array vs) ≡ t.array t.no_trees
seen_empty vs e =
    let seen : view (Array vs) ≡ t.array (views vs.items) = search (rules, the_lemmas) in
    seen ∙ ap (λ vs. t.array (views vs)) e

pub metadata_fits : (vs : Vec Value Global) → vs.items ≡ [] → is_some (metadata_form (view (Array vs))) ≡ true
metadata_fits vs e = ap (λ v. is_some (metadata_form v)) (seen_empty vs e) ∙ ap is_some (ap (option_and_then (layout (t.array t.no_trees))) (type_kind types.Metadata) ∙ no_metadata)

pub related_fits : (vs : Vec Value Global) → vs.items ≡ [] → is_some (related_form (view (Array vs))) ≡ true
related_fits vs e = ap (λ v. is_some (related_form v)) (seen_empty vs e) ∙ ap is_some (ap (option_and_then (layout (t.array t.no_trees))) (type_kind types.Related) ∙ no_related)
