-- Bytes that have a fault are no script.
use Rattle.std.proofs.Common.{◌≡◌, ◌≢◌, ◌≤◌, ◌+◌, ◌⊎◌, inl, inr, ℕ, List, [], ◌∷◌, ◌++◌, length, Some, None, Result, Ok, Err, IfErr, MatchResult, refl, sym, ◌∙◌, ap, subst, arith, length-append, take}
use Rattle.std.proofs.Math.Seq.{take-append_seam}
use Rattle.std.specs.Prelude.{slice_get}
use Rattle.std.proofs.lemmas.Option.{slice_get_past}
use Rattle.script.specs.Words.{IsWritten, Resolves, IsUnknown}
use Rattle.script.specs.declared.command.Command.{Command}
use Rattle.script.specs.declared.command.Command.TheVariants as command
use Rattle.script.specs.declared.command.Written.{Written}
use Rattle.script.specs.declared.command.Written.TheVariants as written
use Rattle.script.specs.declared.fault.ScriptFault.{ScriptFault}
use Rattle.script.specs.declared.fault.ScriptFault.TheVariants.{BadLine, TooLong, TooManyLanes, TooManyCommands, UnknownTree, NoMemory}
use Rattle.script.proofs.Alone.{commit_alone}
use Rattle.script_reader.specs.Nodes.{fields_of}
use Rattle.script_reader.specs.Same.{AreSame, AreSameLanes, IsSame}
use Rattle.script_reader.specs.Script.{Tree, Commands, State, start, between, in_tree, in_lane, OpensTree, IsNextNode, Leads, Says, IsScript, Refuses, EndsBadly, FirstFault, IsFault}
use Rattle.script_reader.proofs.OneCommand.{command_same}
use Rattle.script_reader.proofs.OneNode.{node_one, end_no_node, end_no_command, lane_no_tree, same_tree}

-- two states that go on alike: the same trees and nodes, and the same lanes and commands
abbrev Alike : State → State → Type 0
Alike start start = Unit {0}
Alike (between a b) (between c d) = (a ≡ c) × AreSameLanes b d
Alike (in_tree a b i) (in_tree c d j) = (a ≡ c) × AreSameLanes b d × (i ≡ j)
Alike (in_lane a b k) (in_lane c d l) = (a ≡ c) × AreSameLanes b d × AreSame k l
Alike s t = ⊥

one_command : (k l : Commands) (c d : Command) → AreSame k l → IsSame c d → AreSame (k ++ c ∷ []) (l ++ d ∷ [])
one_command [] [] c d are is = (is, tt)
one_command [] (x ∷ l) c d are is = absurd are
one_command (x ∷ k) [] c d are is = absurd are
one_command (x ∷ k) (y ∷ l) c d are is = (are.0, one_command k l c d are.1 is)

one_lane : (b d : List Commands) (k l : Commands) → AreSameLanes b d → AreSame k l → AreSameLanes (b ++ k ∷ []) (d ++ l ∷ [])
one_lane [] [] k l are is = (is, tt)
one_lane [] (x ∷ d) k l are is = absurd are
one_lane (x ∷ b) [] k l are is = absurd are
one_lane (x ∷ b) (y ∷ d) k l are is = (are.0, one_lane b d k l are.1 is)

as_many : (k l : Commands) → AreSame k l → length k ≡ length l
as_many [] [] are = refl
as_many [] (x ∷ l) are = absurd are
as_many (x ∷ k) [] are = absurd are
as_many (x ∷ k) (y ∷ l) are = omega (arith, as_many k l are.1)

as_many_lanes : (b d : List Commands) → AreSameLanes b d → length b ≡ length d
as_many_lanes [] [] are = refl
as_many_lanes [] (x ∷ d) are = absurd are
as_many_lanes (x ∷ b) [] are = absurd are
as_many_lanes (x ∷ b) (y ∷ d) are = omega (arith, as_many_lanes b d are.1)

alike : (s t u v : State) → u ≡ s → v ≡ t → Alike s t → Alike u v
alike s t u v p q a = subst (λ x. Alike x v) (sym p) (subst (Alike s) (sym q) a)

leads_alike : (s t u v : State) (line : List ℕ) → Alike s t → Leads s line u → Leads t line v → Alike u v
leads_alike start start u v line a p q = alike (between [] []) (between [] []) u v p.1 q.1 (refl, tt)
leads_alike (between a b) (between c d) u v line same (inl p) (inl q) = alike (in_tree a b []) (in_tree c d []) u v p.1 q.1 (same.0, same.1, refl)
leads_alike (between a b) (between c d) u v line same (inl p) (inr q) = absurd (lane_no_tree line _ q.0 p.0.1)
leads_alike (between a b) (between c d) u v line same (inr p) (inl q) = absurd (lane_no_tree line _ p.0 q.0.1)
leads_alike (between a b) (between c d) u v line same (inr p) (inr q) = alike (in_lane a b []) (in_lane c d []) u v p.2 q.2 (same.0, same.1, tt)
leads_alike (in_tree a b i) (in_tree c d j) u v line same (inl p) (inl q) =
    alike (between (a ++ i ∷ []) b) (between (c ++ j ∷ []) d) u v p.1 q.1 (ap (λ x. x ++ i ∷ []) same.0 ∙ ap (λ x. c ++ x ∷ []) same.2, same.1)
leads_alike (in_tree a b i) (in_tree c d j) u v line same (inl p) (inr q) = absurd (end_no_node line q.0 p.0 q.1.0)
leads_alike (in_tree a b i) (in_tree c d j) u v line same (inr p) (inl q) = absurd (end_no_node line p.0 q.0 p.1.0)
leads_alike (in_tree a b i) (in_tree c d j) u v line same (inr p) (inr q) =
    alike (in_tree a b (i ++ p.0 ∷ [])) (in_tree c d (j ++ q.0 ∷ [])) u v p.2 q.2
    (same.0, same.1, ap (λ x. x ++ p.0 ∷ []) same.2 ∙ ap (λ x. j ++ x ∷ []) (node_one line p.0 q.0 p.1.0 q.1.0))
leads_alike (in_lane a b k) (in_lane c d l) u v line same (inl p) (inl q) =
    alike (between a (b ++ k ∷ [])) (between c (d ++ l ∷ [])) u v p.1 q.1 (same.0, one_lane b d k l same.1 same.2)
leads_alike (in_lane a b k) (in_lane c d l) u v line same (inl p) (inr q) = absurd (end_no_command line q.2.0 p.0 q.2.1)
leads_alike (in_lane a b k) (in_lane c d l) u v line same (inr p) (inl q) = absurd (end_no_command line p.2.0 q.0 p.2.1)
leads_alike (in_lane a b k) (in_lane c d l) u v line same (inr p) (inr q) =
    alike (in_lane a b (k ++ p.0 ∷ [])) (in_lane c d (l ++ q.0 ∷ [])) u v p.3 q.3
    (same.0, same.1, one_command k l p.0 q.0 same.2 (command_same c (fields_of line) p.2.0 q.2.0 p.0 q.0 p.2.1 q.2.1 (subst (λ x. Resolves x p.2.0 p.0) same.0 p.2.2) q.2.2))
leads_alike start (between c d) u v line same p q = absurd same
leads_alike start (in_tree c d j) u v line same p q = absurd same
leads_alike start (in_lane c d l) u v line same p q = absurd same
leads_alike (between a b) start u v line same p q = absurd same
leads_alike (between a b) (in_tree c d j) u v line same p q = absurd same
leads_alike (between a b) (in_lane c d l) u v line same p q = absurd same
leads_alike (in_tree a b i) start u v line same p q = absurd same
leads_alike (in_tree a b i) (between c d) u v line same p q = absurd same
leads_alike (in_tree a b i) (in_lane c d l) u v line same p q = absurd same
leads_alike (in_lane a b k) start u v line same p q = absurd same
leads_alike (in_lane a b k) (between c d) u v line same p q = absurd same
leads_alike (in_lane a b k) (in_tree c d j) u v line same p q = absurd same

-- a commit of a tree that is there is of no unknown tree
known_tree : (trees : List Tree) (words : List (List ℕ)) (w x : Written) (c : Command) (n : ℕ) → IsWritten words w → Resolves trees w c → IsWritten words x → IsUnknown (length trees) x n → ⊥
known_tree trees words w (written.Command d) c n s r t no_tree = no_tree
known_tree trees words (written.Command d) (written.Commit l) c n s r t un = commit_alone words d l s t
known_tree trees words (written.Commit k) (written.Commit l) (command.Commit branch tree subject body time) n s r t un =
    let e : k.tree ≡ l.tree = same_tree words k l s t in
    let past : length trees ≤ k.tree = omega (arith, e, un.0, un.1) in
    let none : slice_get trees k.tree ≡ None = slice_get_past trees k.tree past in
    let n : None ≡ Some tree.items = sym none ∙ r.1 in cc
known_tree trees words (written.Commit k) (written.Commit l) command.Refs n s r t un = r
known_tree trees words (written.Commit k) (written.Commit l) command.Status n s r t un = r
known_tree trees words (written.Commit k) (written.Commit l) (command.RevParse rev) n s r t un = r
known_tree trees words (written.Commit k) (written.Commit l) (command.Log rev) n s r t un = r
known_tree trees words (written.Commit k) (written.Commit l) (command.Ls rev path) n s r t un = r
known_tree trees words (written.Commit k) (written.Commit l) (command.Cat rev path) n s r t un = r
known_tree trees words (written.Commit k) (written.Commit l) (command.Checkout rev name) n s r t un = r
known_tree trees words (written.Commit k) (written.Commit l) (command.Reset branch sum) n s r t un = r
known_tree trees words (written.Commit k) (written.Commit l) (command.DropRef branch) n s r t un = r
known_tree trees words (written.Commit k) (written.Commit l) (command.Prune depth) n s r t un = r
known_tree trees words (written.Commit k) (written.Commit l) command.Cleanup n s r t un = r

-- a line that leads on is refused for want of memory alone
clash_start : (u : State) (line : List ℕ) (n : ℕ) (e : ScriptFault) → Leads start line u → Refuses start line n e → e ≡ NoMemory
clash_start u line n (BadLine m) p r = absurd (r.1 p.0)
clash_start u line n TooLong p r = absurd r
clash_start u line n TooManyLanes p r = absurd r
clash_start u line n TooManyCommands p r = absurd r
clash_start u line n (UnknownTree t) p r = absurd r
clash_start u line n NoMemory p r = refl

clash_between : (a c : List Tree) (b d : List Commands) (u : State) (line : List ℕ) (n : ℕ) (e : ScriptFault) → a ≡ c → length b ≡ length d → Leads (between a b) line u → Refuses (between c d) line n e → e ≡ NoMemory
clash_between a c b d u line n (BadLine m) same lanes (inl p) r = absurd (r.1.0 (subst (λ x. OpensTree (length x) line) same p.0))
clash_between a c b d u line n (BadLine m) same lanes (inr p) r = absurd (r.1.1 p.0)
clash_between a c b d u line n TooManyLanes same lanes (inl p) r = absurd (lane_no_tree line _ r.0 p.0.1)
clash_between a c b d u line n TooManyLanes same lanes (inr p) r = absurd (omega (arith, lanes, p.1, r.1))
clash_between a c b d u line n TooLong same lanes p r = absurd r
clash_between a c b d u line n TooManyCommands same lanes p r = absurd r
clash_between a c b d u line n (UnknownTree t) same lanes p r = absurd r
clash_between a c b d u line n NoMemory same lanes p r = refl

clash_tree : (a c : List Tree) (b d : List Commands) (i j : Tree) (u : State) (line : List ℕ) (n : ℕ) (e : ScriptFault) → i ≡ j → Leads (in_tree a b i) line u → Refuses (in_tree c d j) line n e → e ≡ NoMemory
clash_tree a c b d i j u line n (BadLine m) same (inl p) r = absurd (r.1.0 p.0)
clash_tree a c b d i j u line n (BadLine m) same (inr p) r = absurd (r.1.1 p.0 (subst (λ x. IsNextNode x line p.0) same p.1))
clash_tree a c b d i j u line n TooLong same p r = absurd r
clash_tree a c b d i j u line n TooManyLanes same p r = absurd r
clash_tree a c b d i j u line n TooManyCommands same p r = absurd r
clash_tree a c b d i j u line n (UnknownTree t) same p r = absurd r
clash_tree a c b d i j u line n NoMemory same p r = refl

clash_lane : (a c : List Tree) (b d : List Commands) (k l : Commands) (u : State) (line : List ℕ) (n : ℕ) (e : ScriptFault) → a ≡ c → length k ≡ length l → Leads (in_lane a b k) line u → Refuses (in_lane c d l) line n e → e ≡ NoMemory
clash_lane a c b d k l u line n (BadLine m) same count (inl p) r = absurd (r.1.0 p.0)
clash_lane a c b d k l u line n (BadLine m) same count (inr p) r = absurd (r.1.1 p.2.0 p.2.1)
clash_lane a c b d k l u line n TooManyCommands same count (inl p) r = absurd (end_no_command line r.1 p.0 r.2)
clash_lane a c b d k l u line n TooManyCommands same count (inr p) r = absurd (omega (arith, count, p.1, r.0))
clash_lane a c b d k l u line n (UnknownTree t) same count (inl p) r = absurd (end_no_command line r.1 p.0 r.2)
clash_lane a c b d k l u line n (UnknownTree t) same count (inr p) r =
    absurd (known_tree c (fields_of line) p.2.0 r.1 p.0 t p.2.1 (subst (λ x. Resolves x p.2.0 p.0) same p.2.2) r.2 r.3)
clash_lane a c b d k l u line n TooLong same count p r = absurd r
clash_lane a c b d k l u line n TooManyLanes same count p r = absurd r
clash_lane a c b d k l u line n NoMemory same count p r = refl

clash : (s t u : State) (line : List ℕ) (n : ℕ) (e : ScriptFault) → Alike s t → Leads s line u → Refuses t line n e → e ≡ NoMemory
clash start start u line n e same = clash_start u line n e
clash (between a b) (between c d) u line n e same = clash_between a c b d u line n e same.0 (as_many_lanes b d same.1)
clash (in_tree a b i) (in_tree c d j) u line n e same = clash_tree a c b d i j u line n e same.2
clash (in_lane a b k) (in_lane c d l) u line n e same = clash_lane a c b d k l u line n e same.0 (as_many k l same.2)
clash start (between c d) u line n e same = absurd same
clash start (in_tree c d j) u line n e same = absurd same
clash start (in_lane c d l) u line n e same = absurd same
clash (between a b) start u line n e same = absurd same
clash (between a b) (in_tree c d j) u line n e same = absurd same
clash (between a b) (in_lane c d l) u line n e same = absurd same
clash (in_tree a b i) start u line n e same = absurd same
clash (in_tree a b i) (between c d) u line n e same = absurd same
clash (in_tree a b i) (in_lane c d l) u line n e same = absurd same
clash (in_lane a b k) start u line n e same = absurd same
clash (in_lane a b k) (between c d) u line n e same = absurd same
clash (in_lane a b k) (in_tree c d j) u line n e same = absurd same

-- nothing behind the last line of a script is wrong
ends_well : (s : State) (trees : List Tree) (lanes : List Commands) → Alike (between trees lanes) s → EndsBadly s [] → ⊥
ends_well (between c d) trees lanes same bad = bad refl
ends_well start trees lanes same bad = same
ends_well (in_tree c d j) trees lanes same bad = same
ends_well (in_lane c d l) trees lanes same bad = same

abbrev Wrong : State → List ℕ → List (List ℕ) → ℕ → ScriptFault → Type 0
Wrong state line after n e = ((after ≡ []) × EndsBadly state line × (e ≡ BadLine n)) ⊎ ((after ≢ []) × Refuses state line n e)

behind : (x : List ℕ) (xs : List (List ℕ)) → xs ++ x ∷ [] ≡ [] → ⊥
behind x xs e = omega (arith, ap length e, length-append xs (x ∷ []))

walk : (lines before after : List (List ℕ)) (line : List ℕ) (s t u : State) (trees : List Tree) (lanes : List Commands) (n : ℕ) (e : ScriptFault)
    → Alike s t → Says s lines (between trees lanes) → Says t before u → lines ++ [] ∷ [] ≡ before ++ line ∷ after → Wrong u line after n e → e ≡ NoMemory
walk [] [] after line s t u trees lanes n e same p q cut (inl w) =
    let l : line ≡ [] = cc in
    absurd (ends_well u trees lanes (alike s t (between trees lanes) u (sym p) (sym q) same) (subst (EndsBadly u) l w.1))
walk [] [] after line s t u trees lanes n e same p q cut (inr w) = let none : after ≡ [] = cc in absurd (w.0 none)
walk (l ∷ lines) [] after line s t u trees lanes n e same p q cut (inl w) = let all : after ≡ lines ++ [] ∷ [] = cc in absurd (behind [] lines (sym all ∙ w.0))
walk (l ∷ lines) [] after line s t u trees lanes n e same p q cut (inr w) =
    let here : line ≡ l = cc in
    clash s u p.0 line n e (alike s t s u refl (sym q) same) (subst (λ x. Leads s x p.0) (sym here) p.1) w.1
walk [] (b ∷ before) after line s t u trees lanes n e same p q cut w = absurd (none before after line cut)
  where
    none : (before after : List (List ℕ)) (line : List ℕ) → [] ∷ [] ≡ b ∷ (before ++ line ∷ after) → ⊥
    none before after line e = omega (arith, ap length e, length-append before (line ∷ after))
walk (l ∷ lines) (b ∷ before) after line s t u trees lanes n e same p q cut w =
    let here : l ≡ b = cc in
    let rest : lines ++ [] ∷ [] ≡ before ++ line ∷ after = cc in
    walk lines before after line p.0 q.0 u trees lanes n e (leads_alike s t p.0 q.0 b same (subst (λ x. Leads s x p.0) here p.1) q.1) p.2 q.2 rest w

no_script_at : (bytes : List ℕ) (lanes : List Commands) (e : ScriptFault) → IsScript bytes lanes → FirstFault bytes e → e ≡ NoMemory
no_script_at bytes lanes e script fault =
    walk script.lines fault.before fault.after fault.line start start fault.state script.trees lanes (length fault.before + 1) e tt script.says fault.says (sym script.text ∙ fault.text) fault.wrong

pub no_script : (bytes : List ℕ) (lanes : List Commands) (e : ScriptFault) → IsScript bytes lanes → IsFault bytes e → e ≡ NoMemory
no_script bytes lanes TooLong script long = absurd (omega (arith, script.few, long))
no_script bytes lanes NoMemory script fault = refl
no_script bytes lanes (BadLine n) script fault = no_script_at bytes lanes (BadLine n) script fault
no_script bytes lanes TooManyLanes script fault = no_script_at bytes lanes TooManyLanes script fault
no_script bytes lanes TooManyCommands script fault = no_script_at bytes lanes TooManyCommands script fault
no_script bytes lanes (UnknownTree n) script fault = no_script_at bytes lanes (UnknownTree n) script fault

pub exact_from : {X : Type 0} (bytes : List ℕ) (lanes : List Commands) (P : X → Type 0) (r : Result X ScriptFault) → MatchResult r P (IsFault bytes) → IsScript bytes lanes → IfErr r (λ e. e ≡ NoMemory)
exact_from bytes lanes P (Ok x) is script = tt
exact_from bytes lanes P (Err e) is script = no_script bytes lanes e script is

-- the same lines lead to states that are alike
says_alike : (lines : List (List ℕ)) (s t u v : State) → Alike s t → Says s lines u → Says t lines v → Alike u v
says_alike [] s t u v same p q = alike s t u v (sym p) (sym q) same
says_alike (line ∷ lines) s t u v same p q = says_alike lines p.0 q.0 u v (leads_alike s t p.0 q.0 line same p.1 q.1) p.2 q.2

says_same : (lines more : List (List ℕ)) (u v : State) → lines ≡ more → Says start lines u → Says start more v → Alike u v
says_same lines more u v same p q = says_alike lines start start u v tt p (subst (λ l. Says start l v) (sym same) q)

-- bytes are a script of one list of lanes
pub script_one : (bytes : List ℕ) (a b : List Commands) → IsScript bytes a → IsScript bytes b → AreSameLanes a b
script_one bytes a b p q = (says_same p.lines q.lines (between p.trees a) (between q.trees b) (front_same p.lines q.lines (sym p.text ∙ q.text)) p.says q.says).1
  where
    front_same : (x y : List (List ℕ)) → x ++ [] ∷ [] ≡ y ++ [] ∷ [] → x ≡ y
    front_same x y e = let l : length x ≡ length y = omega (arith, ap length e, length-append x ([] ∷ []), length-append y ([] ∷ [])) in
        sym (take-append_seam x ([] ∷ [])) ∙ ap (λ n. take n (x ++ [] ∷ [])) l ∙ ap (take (length y)) e ∙ take-append_seam y ([] ∷ [])
