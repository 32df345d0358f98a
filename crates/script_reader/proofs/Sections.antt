-- The lines of trees and lanes that are written lead from the start of a script to its end.
use Rattle.std.proofs.Common.{◌≡◌, inl, inr, ◌<◌, ◌≤◌, ◌+◌, ◌^◌, ℕ, List, [], ◌∷◌, ◌++◌, map, length, codes, All, Some, None, true, refl, sym, ◌∙◌, ap, subst, arith, append_assoc, append-nil, length-append}
use Rattle.std.specs.Prelude.{slice_get}
use Rattle.std.specs.List.{flat_map}
use Rattle.std.proofs.lemmas.Bool.{cases_lt}
use Rattle.std.proofs.lemmas.List.Elements.{All-nil, All-cons, All-head, All-tail, All-append, All-from_recursion}
use Rattle.std.proofs.lemmas.Option.{slice_get_past}
use Rattle.ost_forms.specs.declared.tree_item.TreeItem.{TreeItem}
use Rattle.script.specs.Words.{Resolves}
use Rattle.script.specs.declared.command.Command.{Command}
use Rattle.script.specs.declared.command.Command.TheVariants as command
use Rattle.script.specs.declared.command.Written.{Written}
use Rattle.script.specs.declared.command.Written.TheVariants as written
use Rattle.script_reader.specs.Script.{Tree, Commands, State, start, between, in_tree, in_lane, header, Ascends, Says, IsScript}
use Rattle.script_reader.specs.Writing.{AreCommands, AreLanes, AscendAll, IsScriptOf, IsWritableNode, IsWritableTree, command_line, lane_section, line_text, node_line, number_text, script_lines, script_text, tree_section, tree_sections}
use Rattle.script_reader.proofs.FieldTexts.{IsVisible, are_visible, visible_all}
use Rattle.script_reader.proofs.Joins.{Lacks, as_long, cut_lines}
use Rattle.script_reader.proofs.Lines.{cut_words, one_line}
use Rattle.script_reader.proofs.NodeTexts.{node_back, node_one_line, number_back, number_visible}
use Rattle.script_reader.proofs.CommandTexts.{HasShortTree, command_back, command_one_line}

-- lines, none of which has a newline in it, that lead from one state to another
record Leads (s : State) (lines : List (List ℕ)) (t : State) : Type 0 where
  says : Says s lines t
  lines_are : All (Lacks 10) lines

says_then : (xs ys : List (List ℕ)) (s t u : State) → Says s xs t → Says t ys u → Says s (xs ++ ys) u
says_then [] ys s t u p q = subst (λ x. Says x ys u) (sym p) q
says_then (x ∷ xs) ys s t u p q = (p.0, p.1, says_then xs ys p.0 t u p.2 q)

then : (xs ys : List (List ℕ)) (s t u : State) → Leads s xs t → Leads t ys u → Leads s (xs ++ ys) u
then xs ys s t u p q = record { says = says_then xs ys s t u p.says q.says; lines_are = All-append (Lacks 10) xs ys p.lines_are q.lines_are }

none : (s t : State) → s ≡ t → Leads s [] t
none s t same = record { says = same; lines_are = All-nil (Lacks 10) }

word_line : (word : List ℕ) → are_visible word ≡ true → Lacks 10 word
word_line word seen = one_line (word ∷ []) (All-from_recursion (All IsVisible) (word ∷ []) (visible_all word seen, tt))

end_line : Lacks 10 (codes "end")
end_line = word_line (codes "end") refl

header_line : Lacks 10 header
header_line = one_line (codes "ostree-script" ∷ codes "1" ∷ []) (All-from_recursion (All IsVisible) (codes "ostree-script" ∷ codes "1" ∷ []) (visible_all (codes "ostree-script") refl, (visible_all (codes "1") refl, tt)))

-- ---- trees

behind : (before items : Tree) (item : TreeItem) → AscendAll (before ++ item ∷ items) → Ascends before item
behind before items item order = λ front last e. order front items last item (ap (λ d. d ++ item ∷ items) e ∙ append_assoc front (last ∷ []) (item ∷ items))

nodes_lead : (trees : List Tree) (lanes : List Commands) (before items : Tree) → All IsWritableNode items → AscendAll (before ++ items) → Leads (in_tree trees lanes before) (map node_line items) (in_tree trees lanes (before ++ items))
nodes_lead trees lanes before [] are order = none (in_tree trees lanes before) (in_tree trees lanes (before ++ [])) (ap (in_tree trees lanes) (sym (append-nil before)))
nodes_lead trees lanes before (item ∷ items) are order =
    let one = All-head IsWritableNode item items are in
    let whole : (before ++ item ∷ []) ++ items ≡ before ++ item ∷ items = append_assoc before (item ∷ []) items in
    let more = nodes_lead trees lanes (before ++ item ∷ []) items (All-tail IsWritableNode item items are) (subst AscendAll (sym whole) order) in record {
      says = (in_tree trees lanes (before ++ item ∷ []), inr (item, (node_back item one, behind before items item order), refl), subst (λ t. Says (in_tree trees lanes (before ++ item ∷ [])) (map node_line items) (in_tree trees lanes t)) whole more.says);
      lines_are = All-cons (Lacks 10) (node_line item) (map node_line items) (node_one_line item one) more.lines_are;
    }

head_seen : (n : ℕ) → n < 2 ^ 32 → All (All IsVisible) (codes "tree" ∷ number_text n ∷ [])
head_seen n less = All-from_recursion (All IsVisible) (codes "tree" ∷ number_text n ∷ []) (visible_all (codes "tree") refl, (number_visible n (omega (arith, less)), tt))

tree_leads : (trees : List Tree) (lanes : List Commands) (items : Tree) → IsWritableTree items → length trees < 2 ^ 32 → Leads (between trees lanes) (tree_section (length trees) items) (between (trees ++ items ∷ []) lanes)
tree_leads trees lanes items is few =
    let n = length trees in
    let seen = head_seen n few in
    let nodes = nodes_lead trees lanes [] items is.nodes is.order in
    let closed : Leads (in_tree trees lanes items) (codes "end" ∷ []) (between (trees ++ items ∷ []) lanes) =
    record { says = (between (trees ++ items ∷ []) lanes, inl (refl, refl), refl); lines_are = All-cons (Lacks 10) (codes "end") [] end_line (All-nil (Lacks 10)) } in
    let rest = then (map node_line items) (codes "end" ∷ []) (in_tree trees lanes []) (in_tree trees lanes items) (between (trees ++ items ∷ []) lanes) nodes closed in record {
      says = (in_tree trees lanes [], inl ((number_text n, cut_words (codes "tree") (number_text n ∷ []) seen, number_back (2 ^ 32) n (omega arith) few), refl), rest.says);
      lines_are = All-cons (Lacks 10) (line_text (codes "tree" ∷ number_text n ∷ [])) (map node_line items ++ codes "end" ∷ []) (one_line (codes "tree" ∷ number_text n ∷ []) seen) rest.lines_are;
    }

trees_lead : (before trees : List Tree) (lanes : List Commands) (n : ℕ) → n ≡ length before → All IsWritableTree trees → length before + length trees ≤ 2 ^ 32 → Leads (between before lanes) (tree_sections n trees) (between (before ++ trees) lanes)
trees_lead before [] lanes n count are few = none (between before lanes) (between (before ++ []) lanes) (ap (λ t. between t lanes) (sym (append-nil before)))
trees_lead before (items ∷ trees) lanes n count are few =
    let one = tree_leads before lanes items (All-head IsWritableTree items trees are) (omega (arith, few)) in
    let more = trees_lead (before ++ items ∷ []) trees lanes (n + 1) (omega (arith, count, length-append before (items ∷ []))) (All-tail IsWritableTree items trees are) (omega (arith, few, length-append before (items ∷ []))) in
    subst (λ t. Leads (between before lanes) (tree_section n items ++ tree_sections (n + 1) trees) (between t lanes)) (append_assoc before (items ∷ []) trees)
    (then (tree_section n items) (tree_sections (n + 1) trees) (between before lanes) (between (before ++ items ∷ []) lanes) (between ((before ++ items ∷ []) ++ trees) lanes)
    (subst (λ k. Leads (between before lanes) (tree_section k items) (between (before ++ items ∷ []) lanes)) (sym count) one) more)

-- ---- lanes

there : {X : Type 0} (xs : List X) (k : ℕ) (x : X) → slice_get xs k ≡ Some x → k < length xs
there xs k x is = elim (cases_lt k (length xs)) [
  | inl below ↦ below
  | inr past ↦ let n : None ≡ Some x = sym (slice_get_past xs k past) ∙ is in absurd cc
]

short_tree : (trees : List Tree) (w : Written) (c : Command) → Resolves trees w c → length trees ≤ 2 ^ 32 → HasShortTree w
short_tree trees (written.Command d) c is few = tt
short_tree trees (written.Commit line) (command.Commit branch tree subject body time) is few = omega (arith, few, there trees line.tree tree.items is.1)
short_tree trees (written.Commit line) command.Refs is few = absurd is
short_tree trees (written.Commit line) command.Status is few = absurd is
short_tree trees (written.Commit line) (command.RevParse rev) is few = absurd is
short_tree trees (written.Commit line) (command.Log rev) is few = absurd is
short_tree trees (written.Commit line) (command.Ls rev path) is few = absurd is
short_tree trees (written.Commit line) (command.Cat rev path) is few = absurd is
short_tree trees (written.Commit line) (command.Checkout rev name) is few = absurd is
short_tree trees (written.Commit line) (command.Reset branch commit) is few = absurd is
short_tree trees (written.Commit line) (command.DropRef branch) is few = absurd is
short_tree trees (written.Commit line) (command.Prune depth) is few = absurd is
short_tree trees (written.Commit line) command.Cleanup is few = absurd is

module _ (trees : List Tree) (lanes : List Commands) (few : length trees ≤ 2 ^ 32) where
  commands_lead : (before : Commands) (lines : List Written) (commands : Commands) → AreCommands trees lines commands → length before + length lines ≤ 64
      → Leads (in_lane trees lanes before) (map command_line lines) (in_lane trees lanes (before ++ commands))
  commands_lead before [] [] are short = none (in_lane trees lanes before) (in_lane trees lanes (before ++ [])) (ap (in_lane trees lanes) (sym (append-nil before)))
  commands_lead before [] (c ∷ commands) are short = absurd are
  commands_lead before (w ∷ lines) [] are short = absurd are
  commands_lead before (w ∷ lines) (c ∷ commands) are short =
      let tree = short_tree trees w c are.1 few in
      let more = commands_lead (before ++ c ∷ []) lines commands are.2 (omega (arith, short, length-append before (c ∷ []))) in record {
        says = (
          in_lane trees lanes (before ++ c ∷ []),
          inr (c, omega (arith, short), (w, command_back w are.0 tree, are.1), refl),
          subst (λ t. Says (in_lane trees lanes (before ++ c ∷ [])) (map command_line lines) (in_lane trees lanes t)) (append_assoc before (c ∷ []) commands) more.says,
        );
        lines_are = All-cons (Lacks 10) (command_line w) (map command_line lines) (command_one_line w are.0 tree) more.lines_are;
      }

  lane_leads : (lines : List Written) (commands : Commands) → AreCommands trees lines commands → length lines ≤ 64 → length lanes < 8 → Leads (between trees lanes) (lane_section lines) (between trees (lanes ++ commands ∷ []))
  lane_leads lines commands are short room =
      let closed : Leads (in_lane trees lanes commands) (codes "end" ∷ []) (between trees (lanes ++ commands ∷ [])) =
      record { says = (between trees (lanes ++ commands ∷ []), inl (refl, refl), refl); lines_are = All-cons (Lacks 10) (codes "end") [] end_line (All-nil (Lacks 10)) } in
      let rest = then (map command_line lines) (codes "end" ∷ []) (in_lane trees lanes []) (in_lane trees lanes commands) (between trees (lanes ++ commands ∷ [])) (commands_lead [] lines commands are (omega (arith, short))) closed in record {
        says = (in_lane trees lanes [], inr (refl, room, refl), rest.says);
        lines_are = All-cons (Lacks 10) (codes "lane") (map command_line lines ++ codes "end" ∷ []) (word_line (codes "lane") refl) rest.lines_are;
      }

lanes_lead : (trees : List Tree) (few : length trees ≤ 2 ^ 32) (before : List Commands) (lines : List (List Written)) (lanes : List Commands) → AreLanes trees lines lanes → length before + length lines ≤ 8
    → Leads (between trees before) (flat_map lane_section lines) (between trees (before ++ lanes))
lanes_lead trees few before [] [] are room = none (between trees before) (between trees (before ++ [])) (ap (between trees) (sym (append-nil before)))
lanes_lead trees few before [] (lane ∷ lanes) are room = absurd are
lanes_lead trees few before (l ∷ lines) [] are room = absurd are
lanes_lead trees few before (l ∷ lines) (lane ∷ lanes) are room =
    let more = lanes_lead trees few (before ++ lane ∷ []) lines lanes are.2 (omega (arith, room, length-append before (lane ∷ []))) in
    subst (λ t. Leads (between trees before) (lane_section l ++ flat_map lane_section lines) (between trees t)) (append_assoc before (lane ∷ []) lanes)
    (then (lane_section l) (flat_map lane_section lines) (between trees before) (between trees (before ++ lane ∷ [])) (between trees ((before ++ lane ∷ []) ++ lanes))
    (lane_leads trees before few l lane are.1 are.0 (omega (arith, room))) more)

-- ---- the whole

as_many : (n : ℕ) (trees : List Tree) → length trees ≤ length (tree_sections n trees)
as_many n [] = omega arith
as_many n (items ∷ trees) = omega (arith, as_many (n + 1) trees, length-append (tree_section n items) (tree_sections (n + 1) trees))

script_leads : (trees : List Tree) (lines : List (List Written)) (lanes : List Commands) → IsScriptOf trees lines lanes → Leads start (script_lines trees lines) (between trees lanes)
script_leads trees lines lanes is =
    let few : length trees ≤ 2 ^ 32 = omega (arith, is.short, as_long (script_lines trees lines), as_many 0 trees, length-append (tree_sections 0 trees) (flat_map lane_section lines)) in
    let rest = then (tree_sections 0 trees) (flat_map lane_section lines) (between [] []) (between trees []) (between trees lanes) (trees_lead [] trees [] 0 refl is.trees_are (omega (arith, few))) (lanes_lead trees few [] lines lanes is.lanes_are (omega (arith, is.few))) in record {
      says = (between [] [], (refl, refl), rest.says);
      lines_are = All-cons (Lacks 10) header (tree_sections 0 trees ++ flat_map lane_section lines) header_line rest.lines_are;
    }

-- what is written is a script of these lanes
pub script_back : (trees : List Tree) (lines : List (List Written)) (lanes : List Commands) → IsScriptOf trees lines lanes → IsScript (script_text trees lines) lanes
script_back trees lines lanes is =
    let leads = script_leads trees lines lanes is in record {
      few = is.short;
      lines = script_lines trees lines;
      text = cut_lines (script_lines trees lines) leads.lines_are;
      trees = trees;
      says = leads.says;
    }
