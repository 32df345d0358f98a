-- A line is the line of one node, and of one command at most.
use Rattle.std.proofs.Common.{◌≡◌, ◌≤◌, ◌^◌, ◌+◌, inl, inr, ℕ, true, false, List, [], ◌∷◌, codes, Some, refl, sym, ◌∙◌, ap, subst, arith, rules}
use Rattle.std.proofs.lemmas.Fmt.{decimal_injective}
use Rattle.std.specs.Fmt.{decimal}
use Rattle.ost_types.specs.Path.{same_name}
use Rattle.ost_types.specs.declared.meta.Meta.{Meta}
use Rattle.ost_types.specs.declared.meta.Xattr.{Xattr}
use Rattle.ost_forms.specs.declared.tree_item.TreeItem.{TreeItem}
use Rattle.ost_forms.specs.declared.tree_item.BodySpec.{BodySpec}
use Rattle.ost_forms.specs.declared.tree_item.BodySpec.TheVariants.{Given, Fill, Target}
use Rattle.script.specs.Field.{IsNumber, Spells}
use Rattle.script.specs.Words.{IsCommitLineAt, IsCommitLine, IsWritten}
use Rattle.script.specs.declared.command.CommitLine.{CommitLine}
use Rattle.script.specs.declared.command.Written.{Written}
use Rattle.script.specs.declared.command.Written.TheVariants as written
use Rattle.script.proofs.Alone.{end_no_written}
use Rattle.script.proofs.Slices.{At5}
use Rattle.script.proofs.Spelling.{field_one, spelled_one}
use Rattle.script.proofs.FieldValues.{field_of_one}
use Rattle.script.proofs.OneCommand.{path_one}
use Rattle.script_reader.specs.Values.{IsOctal, HasXattrs, IsXattrs, IsFillBody, IsContent}
use Rattle.script_reader.specs.Nodes.{fields_of, IsMeta, IsLinkMeta, IsFolderAt, IsFileAt, IsLinkAt, IsFolder, IsFile, IsLink, IsNode}
use Rattle.script_reader.proofs.Values.{octal_one}
use Rattle.script_reader.proofs.Contents.{fill_one, filled_first}
use Rattle.script_reader.proofs.Hex.{xattrs_one}
use Rattle.script_reader.proofs.Fields.{At6, other_head, same_tail, folder_file, folder_link, file_link}

number_same : (bound : ℕ) (field : List ℕ) (m n : ℕ) → bound ≤ 2 ^ 64 → IsNumber bound field m → IsNumber bound field n → m ≡ n
number_same bound field m n low a b = decimal_injective m n (omega (arith, a.below, low)) (omega (arith, b.below, low)) (field_one field (decimal m) (decimal n) a.spelled b.spelled)

pub number_one : (field : List ℕ) (m n : ℕ) → IsNumber (2 ^ 32) field m → IsNumber (2 ^ 32) field n → m ≡ n
number_one field m n = number_same (2 ^ 32) field m n (omega arith)

meta_same : (a b : Meta) → a.uid ≡ b.uid → a.gid ≡ b.gid → a.mode ≡ b.mode → a.xattrs ≡ b.xattrs → a ≡ b
meta_same a b p q r s = search (rules, p, q, r, s)

item_same : (a b : TreeItem) → a.path ≡ b.path → a.meta ≡ b.meta → a.body ≡ b.body → a ≡ b
item_same a b p q r = search (rules, p, q, r)

xattrs_field_one : (field : List ℕ) (p q : List Xattr) → IsXattrs field p → IsXattrs field q → p ≡ q
xattrs_field_one field = field_of_one HasXattrs field xattrs_one

meta_one : (k : ℕ) (u g m x : List ℕ) (a b : Meta) → IsMeta k u g m x a → IsMeta k u g m x b → a ≡ b
meta_one k u g m x a b p q =
    let bits : p.bits ≡ q.bits = field_of_one IsOctal m octal_one p.bits q.bits p.permissions q.permissions in
    meta_same a b (number_one u _ _ p.owner q.owner) (number_one g _ _ p.group q.group) (p.mode ∙ ap (λ n. k + n) bits ∙ sym q.mode) (xattrs_field_one x _ _ p.xattrs q.xattrs)

link_meta_one : (u g x : List ℕ) (a b : Meta) → IsLinkMeta u g x a → IsLinkMeta u g x b → a ≡ b
link_meta_one u g x a b p q =
    meta_same a b (number_one u _ _ p.owner q.owner) (number_one g _ _ p.group q.group) (p.mode ∙ sym q.mode) (xattrs_field_one x _ _ p.xattrs q.xattrs)

behind_sign : (c t u : List ℕ) → c ≡ 61 ∷ t → c ≡ 61 ∷ u → u ≡ t
behind_sign c t u p q = let e : 61 ∷ u ≡ 61 ∷ t = sym q ∙ p in cc

content_one : (c : List ℕ) (x y : BodySpec) → IsContent c x → IsContent c y → x ≡ y
content_one c (Given b) (Given d) p q = ap Given (spelled_one p.0 b d p.2 (subst (λ t. Spells t d) (behind_sign c p.0 q.0 p.1 q.1) q.2))
content_one c (Given b) (Fill len byte) p q = absurd (filled_first c p.0 len byte p.1 q)
content_one c (Given b) (Target t) p q = absurd q
content_one c (Fill len byte) (Given b) p q = absurd (filled_first c q.0 len byte q.1 p)
content_one c (Fill len byte) (Fill n b) p q = field_of_one IsFillBody c fill_one (Fill len byte) (Fill n b) p q
content_one c (Fill len byte) (Target t) p q = absurd q
content_one c (Target t) y p q = absurd p

folder_at_one : (p u g m x : List ℕ) (a b : TreeItem) → IsFolderAt p u g m x a → IsFolderAt p u g m x b → a ≡ b
folder_at_one p u g m x a b s t = item_same a b (path_one p _ _ s.path t.path) (meta_one 16384 u g m x _ _ s.meta t.meta) (s.body ∙ sym t.body)

file_at_one : (p u g m x c : List ℕ) (a b : TreeItem) → IsFileAt p u g m x c a → IsFileAt p u g m x c b → a ≡ b
file_at_one p u g m x c a b s t =
    item_same a b (path_one p _ _ s.path t.path) (meta_one 32768 u g m x _ _ s.meta t.meta) (s.body ∙ ap Some (content_one c s.content t.content s.written t.written) ∙ sym t.body)

link_at_one : (p u g x t : List ℕ) (a b : TreeItem) → IsLinkAt p u g x t a → IsLinkAt p u g x t b → a ≡ b
link_at_one p u g x t a b s r =
    let target : s.target ≡ r.target = field_one t s.target r.target s.written.text.spelled r.written.text.spelled in
    item_same a b (path_one p _ _ s.path r.path) (link_meta_one u g x _ _ s.meta r.meta) (s.body ∙ ap (λ v. Some (Target v)) target ∙ sym r.body)

five_one : {X : Type 0} (R : List ℕ → List ℕ → List ℕ → List ℕ → List ℕ → X → Type 0) (one : (p u g m x : List ℕ) (a b : X) → R p u g m x a → R p u g m x b → a ≡ b) (fields : List (List ℕ)) (a b : X)
    → (p u g m x : List ℕ) × (fields ≡ p ∷ u ∷ g ∷ m ∷ x ∷ []) × R p u g m x a → (p u g m x : List ℕ) × (fields ≡ p ∷ u ∷ g ∷ m ∷ x ∷ []) × R p u g m x b → a ≡ b
five_one R one fields a b s t = one s.0 s.1 s.2 s.3 s.4 a b s.6 (subst (At5 R b) (sym t.5 ∙ s.5) t.6)

six_one : {X : Type 0} (R : List ℕ → List ℕ → List ℕ → List ℕ → List ℕ → List ℕ → X → Type 0) (one : (p u g m x c : List ℕ) (a b : X) → R p u g m x c a → R p u g m x c b → a ≡ b) (fields : List (List ℕ)) (a b : X)
    → (p u g m x c : List ℕ) × (fields ≡ p ∷ u ∷ g ∷ m ∷ x ∷ c ∷ []) × R p u g m x c a → (p u g m x c : List ℕ) × (fields ≡ p ∷ u ∷ g ∷ m ∷ x ∷ c ∷ []) × R p u g m x c b → a ≡ b
six_one R one fields a b s t = one s.0 s.1 s.2 s.3 s.4 s.5 a b s.7 (subst (At6 R b) (sym t.6 ∙ s.6) t.7)

pub node_one : (line : List ℕ) (a b : TreeItem) → IsNode line a → IsNode line b → a ≡ b
node_one line a b (f, inl s) (g, inl t) = five_one IsFolderAt folder_at_one f a b s.1 (subst (λ f. IsFolder f b) (same_tail _ _ _ _ _ t.0 s.0) t.1)
node_one line a b (f, inl s) (g, inr (inl t)) = absurd (other_head _ _ _ _ _ folder_file s.0 t.0)
node_one line a b (f, inl s) (g, inr (inr t)) = absurd (other_head _ _ _ _ _ folder_link s.0 t.0)
node_one line a b (f, inr (inl s)) (g, inl t) = absurd (other_head _ _ _ _ _ folder_file t.0 s.0)
node_one line a b (f, inr (inl s)) (g, inr (inl t)) = six_one IsFileAt file_at_one f a b s.1 (subst (λ f. IsFile f b) (same_tail _ _ _ _ _ t.0 s.0) t.1)
node_one line a b (f, inr (inl s)) (g, inr (inr t)) = absurd (other_head _ _ _ _ _ file_link s.0 t.0)
node_one line a b (f, inr (inr s)) (g, inl t) = absurd (other_head _ _ _ _ _ folder_link t.0 s.0)
node_one line a b (f, inr (inr s)) (g, inr (inl t)) = absurd (other_head _ _ _ _ _ file_link t.0 s.0)
node_one line a b (f, inr (inr s)) (g, inr (inr t)) = five_one IsLinkAt link_at_one f a b s.1 (subst (λ f. IsLink f b) (same_tail _ _ _ _ _ t.0 s.0) t.1)

-- what closes a section is no line of it
end_fields : fields_of (codes "end") ≡ codes "end" ∷ []
end_fields = refl

end_folder : codes "end" ≡ codes "folder" → ⊥
end_folder e = let n : true ≡ false = ap (same_name (codes "end")) e in cc

end_file : codes "end" ≡ codes "file" → ⊥
end_file e = let n : true ≡ false = ap (same_name (codes "end")) e in cc

end_link : codes "end" ≡ codes "link" → ⊥
end_link e = let n : true ≡ false = ap (same_name (codes "end")) e in cc

pub end_no_node : (line : List ℕ) (item : TreeItem) → line ≡ codes "end" → IsNode line item → ⊥
end_no_node line item end (f, inl s) = other_head _ _ _ _ _ end_folder (ap fields_of end ∙ end_fields) s.0
end_no_node line item end (f, inr (inl s)) = other_head _ _ _ _ _ end_file (ap fields_of end ∙ end_fields) s.0
end_no_node line item end (f, inr (inr s)) = other_head _ _ _ _ _ end_link (ap fields_of end ∙ end_fields) s.0

pub end_no_command : (line : List ℕ) (w : Written) → line ≡ codes "end" → IsWritten (fields_of line) w → ⊥
end_no_command line w end is = end_no_written (fields_of line) [] w (ap fields_of end ∙ end_fields) is

lane_fields : fields_of (codes "lane") ≡ codes "lane" ∷ []
lane_fields = refl

lane_tree : codes "lane" ≡ codes "tree" → ⊥
lane_tree e = let n : true ≡ false = ap (same_name (codes "lane")) e in cc

pub lane_no_tree : (line : List ℕ) (more : List (List ℕ)) → line ≡ codes "lane" → fields_of line ≡ codes "tree" ∷ more → ⊥
lane_no_tree line more lane is = other_head _ _ _ _ _ lane_tree (ap fields_of lane ∙ lane_fields) is

-- the number of the tree that a line commits
pub same_tree : (words : List (List ℕ)) (k l : CommitLine) → IsWritten words (written.Commit k) → IsWritten words (written.Commit l) → k.tree ≡ l.tree
same_tree words k l s t =
    let b = subst (λ f. IsCommitLine f l) (same_tail _ _ _ _ _ t.1 s.1) t.2 in
    let a = s.2 in
    number_one a.1 _ _ a.6.tree (subst (At5 IsCommitLineAt l) (sym b.5 ∙ a.5) b.6).tree
