-- How far a script was read, and what that says of the whole.
use Rattle.std.proofs.Common.{◌≡◌, ◌≢◌, ◌<◌, ◌≤◌, ◌+◌, inl, inr, ℕ, Bool, true, false, List, [], ◌∷◌, ◌++◌, length, get_or, map, codes, All, eqb, Option, Some, None, MatchOption, Result, Ok, Err, IfOk, MatchResult, ◌^◌, refl, sym, ◌∙◌, ap, subst, arith, append_assoc, append-nil, length-append}
use Rattle.std.proofs.lemmas.Bool.{eqb-true}
use Rattle.std.proofs.lemmas.List.Elements.{All-weaker}
use Rattle.std.proofs.lemmas.List.Splits.{slice_split_none, slice_split_at, length-slice_split}
use Rattle.ost_forms.specs.declared.tree_item.TreeItem.{TreeItem}
use Rattle.script.specs.Field.{IsNumber}
use Rattle.script.specs.declared.fault.ScriptFault.{ScriptFault}
use Rattle.script.specs.declared.fault.ScriptFault.TheVariants.{BadLine, TooLong, TooManyLanes, TooManyCommands, UnknownTree, NoMemory}
use Rattle.script_reader.specs.Script.{Tree, Commands, State, start, between, in_tree, in_lane, Leads, Says, lines_of, script_limit, IsScript, Refuses, EndsBadly, FirstFault, IsFault, OpensTree, Ascends, IsNextNode}
use Rattle.script_reader.specs.Drafts.{StartsLine}
use Rattle.script_reader.specs.Nodes.{fields_of, IsNode}
use Rattle.script.proofs.Slices.{two_of}
use Rattle.script_reader.proofs.OneNode.{node_one}

pub says_more : (s : State) (before : List (List ℕ)) (t u : State) (line : List ℕ) → Says s before t → Leads t line u → Says s (before ++ line ∷ []) u
says_more s [] t u line is step = (u, subst (λ x. Leads x line u) (sym is) step, refl)
says_more s (l ∷ before) t u line is step = (is.0, is.1, says_more is.0 before t u line is.2 step)

-- lines
no_newline : (x : ℕ) → x ≢ 10 → eqb x 10 ≡ false
no_newline x other = by (eqb x 10) refl
  where
    by : (b : Bool) → eqb x 10 ≡ b → eqb x 10 ≡ false
    by true e = absurd (other (eqb-true x 10 e))
    by false e = e

plain : (line : List ℕ) → All (λ b. b ≢ 10) line → All (λ b. eqb b 10 ≡ false) line
plain line all = All-weaker _ _ no_newline line all

pub lines_none : (text line rest : List ℕ) → text ≡ line ++ rest → rest ≡ [] → All (λ b. b ≢ 10) line → lines_of text ≡ text ∷ []
lines_none text line rest whole end all =
    let same : text ≡ line = whole ∙ ap (λ r. line ++ r) end ∙ append-nil line in
    ap lines_of same ∙ slice_split_none (λ b. eqb b 10) line (plain line all) ∙ ap (λ t. t ∷ []) (sym same)

pub lines_some : (text line rest behind : List ℕ) (b : ℕ) → text ≡ line ++ rest → rest ≡ b ∷ behind → StartsLine rest → All (λ b. b ≢ 10) line → lines_of text ≡ line ∷ lines_of behind
lines_some text line rest behind b whole e starts all =
    let first : b ≡ 10 = subst StartsLine e starts in
    ap lines_of (whole ∙ ap (λ r. line ++ r) (e ∙ ap (λ x. x ∷ behind) first)) ∙ slice_split_at (λ b. eqb b 10) line 10 behind (plain line all) refl

pub some_lines : (text : List ℕ) → lines_of text ≢ []
some_lines text e = omega (arith, ap length e, length-slice_split (λ b. eqb b 10) text)

-- these lines were read, and this is what is left
pub record ReadSoFar (bytes rest : List ℕ) (state : State) (number : ℕ) : Type 0 where
  pub before : List (List ℕ)
  pub text : lines_of bytes ≡ before ++ lines_of rest
  pub says : Says start before state
  pub count : number ≡ length before + 1
  pub short : number + length rest ≤ length bytes + 1

pub so_far_start : (bytes : List ℕ) → ReadSoFar bytes bytes start 1
so_far_start bytes = record { before = []; text = refl; says = refl; count = omega arith; short = omega arith }

module _ (bytes rest line behind : List ℕ) (s : State) (n : ℕ) (so : ReadSoFar bytes rest s n) (e : lines_of rest ≡ line ∷ lines_of behind) where
  text_here : lines_of bytes ≡ so.before ++ line ∷ lines_of behind
  text_here = so.text ∙ ap (λ t. so.before ++ t) e

  pub so_far_more : (t : State) → length behind < length rest → Leads s line t → ReadSoFar bytes behind t (n + 1)
  so_far_more t less step = record {
    before = so.before ++ line ∷ [];
    text = text_here ∙ sym (append_assoc so.before (line ∷ []) (lines_of behind));
    says = says_more start so.before s t line so.says step;
    count = omega (arith, so.count, length-append so.before (line ∷ []));
    short = omega (arith, so.short, less);
  }

  first_fault : length bytes ≤ script_limit → (f : ScriptFault) → Refuses s line n f → FirstFault bytes f
  first_fault few f refused = record {
    few = few;
    before = so.before;
    line = line;
    after = lines_of behind;
    text = text_here;
    state = s;
    says = so.says;
    wrong = inr (some_lines behind, subst (λ k. Refuses s line k f) so.count refused);
  }

  pub fault_here : length bytes ≤ script_limit → (f : ScriptFault) → Refuses s line n f → IsFault bytes f
  fault_here few (BadLine m) refused = first_fault few (BadLine m) refused
  fault_here few TooManyLanes refused = first_fault few TooManyLanes refused
  fault_here few TooManyCommands refused = first_fault few TooManyCommands refused
  fault_here few (UnknownTree m) refused = first_fault few (UnknownTree m) refused
  fault_here few NoMemory refused = tt
  fault_here few TooLong refused = absurd (not_long s refused)
    where
      not_long : (s : State) → Refuses s line n TooLong → ⊥
      not_long start r = r
      not_long (between a b) r = r
      not_long (in_tree a b c) r = r
      not_long (in_lane a b c) r = r

module _ (bytes rest : List ℕ) (s : State) (n : ℕ) (so : ReadSoFar bytes rest s n) (few : length bytes ≤ script_limit) (e : lines_of rest ≡ rest ∷ []) where
  pub fault_end : (f : ScriptFault) → f ≡ BadLine n → EndsBadly s rest → IsFault bytes f
  fault_end f is bad = subst (IsFault bytes) (sym is) (record {
    few = few;
    before = so.before;
    line = rest;
    after = [];
    text = so.text ∙ ap (λ t. so.before ++ t) e;
    state = s;
    says = so.says;
    wrong = inl (refl, bad, ap BadLine so.count);
  })

  pub script_end : (lanes : List Commands) → rest ≡ [] → (trees : List Tree) × (s ≡ between trees lanes) → IsScript bytes lanes
  script_end lanes none (trees, is) = record {
    few = few;
    lines = so.before;
    text = so.text ∙ ap (λ t. so.before ++ t) (e ∙ ap (λ r. r ∷ []) none);
    trees = trees;
    says = subst (Says start so.before) is so.says;
  }

pub match_weaker : {X E : Type 0} (P Q : X → Type 0) (R S : E → Type 0) (r : Result X E) → ((x : X) → P x → Q x) → ((e : E) → R e → S e) → MatchResult r P R → MatchResult r Q S
match_weaker P Q R S (Ok x) ok err is = ok x is
match_weaker P Q R S (Err e) ok err is = err e is

-- the head of a tree
two_back : (l : List (List ℕ)) (a b c d : List ℕ) → l ≡ a ∷ b ∷ [] → l ≡ c ∷ d ∷ [] → (a ≡ c) × (b ≡ d)
two_back l a b c d p q = let e : a ∷ b ∷ [] ≡ c ∷ d ∷ [] = sym p ∙ q in (let x : a ≡ c = cc in x, let y : b ≡ d = cc in y)

pub opens : (line k f : List ℕ) (n : ℕ) → fields_of line ≡ k ∷ f ∷ [] → (k ≡ codes "tree") × IsNumber (2 ^ 32) f n → OpensTree n line
opens line k f n e is = (f, e ∙ ap (λ w. w ∷ f ∷ []) is.0, is.1)

pub opens_not : (line k f : List ℕ) (n : ℕ) → fields_of line ≡ k ∷ f ∷ [] → ((k ≡ codes "tree") × IsNumber (2 ^ 32) f n → ⊥) → ¬ (OpensTree n line)
opens_not line k f n e none is =
    let same = two_back _ _ _ _ _ e is.1 in
    none (same.0, subst (λ x. IsNumber (2 ^ 32) x n) (sym same.1) is.2)

pub two_fields : {V : Type 0} (now : V → List ℕ) (line : List ℕ) (items slice : List V) (a b : V) → map now items ≡ fields_of line → slice ≡ items → length slice ≡ 2
    → fields_of line ≡ now (get_or slice 0 a) ∷ now (get_or slice 1 b) ∷ []
two_fields now line items slice a b cut same two = sym cut ∙ ap (map now) (sym same) ∙ two_of now slice a b two

-- the next node, and none
pub next_from : (items : Tree) (line : List ℕ) (item : TreeItem) (o : Option Tree) → IsNode line item
    → MatchOption o (¬ (Ascends items item)) (λ more. Ascends items item × (more ≡ items ++ item ∷ []))
    → MatchOption o ((x : TreeItem) → ¬ (IsNextNode items line x)) (λ more. (x : TreeItem) × IsNextNode items line x × (more ≡ items ++ x ∷ []))
next_from items line item None is none = λ x next. none (subst (Ascends items) (node_one line x item next.0 is) next.1)
next_from items line item (Some more) is found = (item, (is, found.0), found.1)

pub lane_opened : {D : Type 0} (line : List ℕ) (trees : List Tree) (lanes : List Commands) (n : ℕ) (shown : D → State) (r : Result D ScriptFault) → line ≡ codes "lane"
    → MatchResult r (λ d. (length lanes < 8) × (shown d ≡ in_lane trees lanes [])) (λ e. (e ≡ TooManyLanes) × (8 ≤ length lanes))
    → MatchResult r (λ d. Leads (between trees lanes) line (shown d)) (λ e. Refuses (between trees lanes) line n e)
lane_opened line trees lanes n shown (Ok d) lane is = inr (lane, is.0, is.1)
lane_opened line trees lanes n shown (Err e) lane is = subst (Refuses (between trees lanes) line n) (sym is.0) (lane, is.1)

module _ {E : Type 0} (k f : List ℕ) (n : ℕ) where
  pub head_yes : (r : Result Bool E) → k ≡ codes "tree" → IfOk r (λ b. b ≡ true → IsNumber (2 ^ 32) f n) → IfOk r (λ b. b ≡ true → (k ≡ codes "tree") × IsNumber (2 ^ 32) f n)
  head_yes (Ok b) tree is = λ e. (tree, is e)
  head_yes (Err x) tree is = tt

  pub head_no : (r : Result Bool E) → IfOk r (λ b. b ≡ false → ¬ (IsNumber (2 ^ 32) f n)) → IfOk r (λ b. b ≡ false → (k ≡ codes "tree") × IsNumber (2 ^ 32) f n → ⊥)
  head_no (Ok b) is = λ e both. is e both.1
  head_no (Err x) is = tt

  pub opens_yes : (line : List ℕ) (r : Result Bool E) → fields_of line ≡ k ∷ f ∷ [] → IfOk r (λ b. b ≡ true → (k ≡ codes "tree") × IsNumber (2 ^ 32) f n) → IfOk r (λ b. b ≡ true → OpensTree n line)
  opens_yes line (Ok b) two is = λ e. opens line k f n two (is e)
  opens_yes line (Err x) two is = tt

  pub opens_no : (line : List ℕ) (r : Result Bool E) → fields_of line ≡ k ∷ f ∷ [] → IfOk r (λ b. b ≡ false → (k ≡ codes "tree") × IsNumber (2 ^ 32) f n → ⊥) → IfOk r (λ b. b ≡ false → ¬ (OpensTree n line))
  opens_no line (Ok b) two is = λ e. opens_not line k f n two (is e)
  opens_no line (Err x) two is = tt
