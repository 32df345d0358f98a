-- What the lines of a script keep, one by one: the trees and the commands so far fit.
use Rattle.std.proofs.Common.{◌≡◌, inl, inr, ◌<◌, ◌≤◌, ◌+◌, ◌*◌, ℕ, List, [], ◌∷◌, ◌++◌, length, codes, Option, Some, None, sym, ◌∙◌, ap, subst, arith, length-append}
use Rattle.std.specs.Prelude.{All}
use Rattle.std.specs.List.Sorted.{IsStrictlySortedBy}
use Rattle.std.proofs.lemmas.List.Elements.{All-nil, All-push, All-weaker}
use Rattle.std.proofs.lemmas.List.Sums.{sum_by-cons, sum_by_push}
use Rattle.std.proofs.lemmas.Option.{get_or_from_slice_get, slice_get_within}
use Rattle.ost_types.specs.Path.{AreNames, path_cmp, text_of}
use Rattle.ost_types.specs.Text.{IsText}
use Rattle.ost_types.specs.declared.limits.Limits.{Limits}
use Rattle.ost_forms.specs.declared.tree_item.BodySpec.{BodySpec}
use Rattle.ost_forms.specs.declared.tree_item.TreeItem.{TreeItem}
use Rattle.script.specs.Words.{IsCommand, IsCommitLineAt, IsWritten as IsCommandWritten, Resolves}
use Rattle.script.specs.declared.command.Command.{Command}
use Rattle.script.specs.declared.command.Command.TheVariants.{Refs, Status, RevParse, Log, Ls, Cat, Checkout, Reset, DropRef, Prune, Cleanup, Commit}
use Rattle.script.specs.declared.command.CommitLine.{CommitLine}
use Rattle.script.specs.declared.command.Written.{Written}
use Rattle.script.specs.declared.command.Written.TheVariants as written
use Rattle.script_reader.specs.Nodes.{fields_of}
use Rattle.script_reader.specs.Script.{State, start, between, in_tree, in_lane, Commands, IsScript, Leads, Says, Tree}
use Rattle.tree_build.specs.Brief.{AreBrief, HasText, HoldsFew, item_size, tree_size}
use Rattle.tree_build.specs.Items.{AreTyped, FitsBody, IsWide as HasWide, paths_of}
use Rattle.tree_build.proofs.Briefs.{makeable, small_root}
use Rattle.script_trees.specs.Fit.{AreFit, IsFit, IsFitCommit, IsWide}
use Rattle.script_trees.proofs.Lengths.{spread, spread_pieces, field_long}
use Rattle.script_trees.proofs.Lines.{IsWritten, node_size, node_written}
use Rattle.script_trees.proofs.Ordered.{ascending_push, none_ascend}

abbrev limit : ℕ
limit = 4194304

-- items of a script's tree, whose lines have at most so many bytes
pub record IsTreeWithin (n : ℕ) (items : Tree) : Type 0 where
  pub ascending : IsStrictlySortedBy path_cmp (paths_of items)
  pub each : All IsWritten items
  pub size : tree_size items ≤ n

abbrev IsCommandFit : Command → Type 0
IsCommandFit (Commit branch tree subject body time) = IsTreeWithin limit tree.items × IsText subject × IsText body × (length subject + length body ≤ limit)
IsCommandFit command = Unit {0}

record IsLaneFit (commands : Commands) : Type 0 where
  few : length commands ≤ 64
  each : All IsCommandFit commands

record AreSectionsFit (trees : List Tree) (lanes : List Commands) : Type 0 where
  made : All (IsTreeWithin limit) trees
  few : length lanes ≤ 8
  each : All IsLaneFit lanes

-- behind lines of so many bytes
abbrev IsStateFit : ℕ → State → Type 0
IsStateFit n start = Unit {0}
IsStateFit n (between trees lanes) = AreSectionsFit trees lanes
IsStateFit n (in_tree trees lanes items) = AreSectionsFit trees lanes × IsTreeWithin n items
IsStateFit n (in_lane trees lanes commands) = AreSectionsFit trees lanes × (length lanes < 8) × IsLaneFit commands

-- ---- a command

plain : (words : List (List ℕ)) (c : Command) → IsCommand words c → IsCommandFit c
plain words Refs is = tt
plain words Status is = tt
plain words (RevParse rev) is = tt
plain words (Log rev) is = tt
plain words (Ls rev path) is = tt
plain words (Cat rev path) is = tt
plain words (Checkout rev name) is = tt
plain words (Reset branch commit) is = tt
plain words (DropRef branch) is = tt
plain words (Prune depth) is = tt
plain words Cleanup is = tt
plain words (Commit branch tree subject body time) is = absurd is.has

both_short : (line b n s m t : List ℕ) (fields : List (List ℕ)) (l : CommitLine) → fields_of line ≡ codes "commit" ∷ fields → fields ≡ b ∷ n ∷ s ∷ m ∷ t ∷ [] → IsCommitLineAt b n s m t l → length l.subject + length l.body ≤ length line
both_short line b n s m t fields l e is at =
    let whole : length line + 1 ≡ 7 + (length b + 1 + (length n + 1 + (length s + 1 + (length m + 1 + (length t + 1 + 0))))) = sym (spread_pieces 32 line) ∙ ap spread (e ∙ ap (λ f. codes "commit" ∷ f) is) in
    omega (arith, whole, field_long s l.subject at.subject.spelled, field_long m l.body at.body.spelled)

committed : (trees : List Tree) (line : List ℕ) (l : CommitLine) (c : Command) → All (IsTreeWithin limit) trees → length line ≤ limit → IsCommandWritten (fields_of line) (written.Commit l) → Resolves trees (written.Commit l) c → IsCommandFit c
committed trees line l Refs all few is r = absurd r
committed trees line l Status all few is r = absurd r
committed trees line l (RevParse rev) all few is r = absurd r
committed trees line l (Log rev) all few is r = absurd r
committed trees line l (Ls rev path) all few is r = absurd r
committed trees line l (Cat rev path) all few is r = absurd r
committed trees line l (Checkout rev name) all few is r = absurd r
committed trees line l (Reset branch commit) all few is r = absurd r
committed trees line l (DropRef branch) all few is r = absurd r
committed trees line l (Prune depth) all few is r = absurd r
committed trees line l Cleanup all few is r = absurd r
committed trees line l (Commit branch tree subject body time) all few is r =
    let at = is.2.6 in
    let short = both_short line is.2.0 is.2.1 is.2.2 is.2.3 is.2.4 is.0 l is.1 is.2.5 at in (
      subst (IsTreeWithin limit) (get_or_from_slice_get trees l.tree tree.items tree.items r.1) (all l.tree tree.items (slice_get_within trees l.tree tree.items r.1)),
      subst IsText (sym r.2) at.subject.text,
      subst IsText (sym r.3) at.body.text,
      omega (arith, ap length r.2, ap length r.3, short, few),
    )

command_fit : (trees : List Tree) (line : List ℕ) (w : Written) (c : Command) → All (IsTreeWithin limit) trees → length line ≤ limit → IsCommandWritten (fields_of line) w → Resolves trees w c → IsCommandFit c
command_fit trees line (written.Command d) c all few is r = subst IsCommandFit (sym r) (plain (fields_of line) d is)
command_fit trees line (written.Commit l) c all few is r = committed trees line l c all few is r

-- ---- a line more

no_items : (n : ℕ) → IsTreeWithin n []
no_items n = record { ascending = none_ascend; each = All-nil IsWritten; size = omega arith }

within : (n m : ℕ) (items : Tree) → n ≤ m → IsTreeWithin n items → IsTreeWithin m items
within n m items le tree = record { ascending = tree.ascending; each = tree.each; size = omega (arith, le, tree.size) }

step : (n : ℕ) (s : State) (line : List ℕ) (t : State) → n + (length line + 1) ≤ limit → IsStateFit n s → Leads s line t → IsStateFit (n + (length line + 1)) t
step n start line t few fit leads =
    subst (IsStateFit (n + (length line + 1))) (sym leads.1) (record { made = All-nil (IsTreeWithin limit); few = omega arith; each = All-nil IsLaneFit })
step n (between trees lanes) line t few fit (inl is) = subst (IsStateFit (n + (length line + 1))) (sym is.1) (fit, no_items (n + (length line + 1)))
step n (between trees lanes) line t few fit (inr is) = subst (IsStateFit (n + (length line + 1))) (sym is.2) (fit, is.1, record { few = omega arith; each = All-nil IsCommandFit })
step n (in_tree trees lanes items) line t few fit (inl is) = subst (IsStateFit (n + (length line + 1))) (sym is.1) (record {
  made = All-push (IsTreeWithin limit) trees items fit.0.made (within n limit items (omega (arith, few)) fit.1);
  few = fit.0.few;
  each = fit.0.each;
})
step n (in_tree trees lanes items) line t few fit (inr is) =
    let tree : IsTreeWithin n items = fit.1 in
    let item = is.0 in
    let size = node_size line item is.1.0 in
    let sum = sum_by_push item_size items item in
    subst (IsStateFit (n + (length line + 1))) (sym is.2) (
      fit.0,
      record {
        ascending = ascending_push items item tree.ascending is.1.1;
        each = All-push IsWritten items item tree.each (node_written line item is.1.0 (omega (arith, few)));
        size = omega (arith, sum, size, tree.size);
      },
    )
step n (in_lane trees lanes commands) line t few fit (inl is) = subst (IsStateFit (n + (length line + 1))) (sym is.1) (record {
  made = fit.0.made;
  few = omega (arith, fit.1, length-append lanes (commands ∷ []));
  each = All-push IsLaneFit lanes commands fit.0.each fit.2;
})
step n (in_lane trees lanes commands) line t few fit (inr is) = subst (IsStateFit (n + (length line + 1))) (sym is.3) (
  fit.0,
  fit.1,
  record {
    few = omega (arith, is.1, length-append commands (is.0 ∷ []));
    each = All-push IsCommandFit commands is.0 fit.2.each (command_fit trees line is.2.0 is.0 fit.0.made (omega (arith, few)) is.2.1 is.2.2);
  },
)

walk : (n : ℕ) (s : State) (lines : List (List ℕ)) (t : State) → n + spread lines ≤ limit → IsStateFit n s → Says s lines t → IsStateFit (n + spread lines) t
walk n s [] t few fit says = let same : n ≡ n + 0 = omega arith in subst (IsStateFit (n + 0)) says (subst (λ k. IsStateFit k s) same fit)
walk n s (line ∷ lines) t few fit says =
    let same : n + (length line + 1) + spread lines ≡ n + (length line + 1 + spread lines) = omega arith in
    subst (λ k. IsStateFit k t) same (walk (n + (length line + 1)) says.0 lines t (omega (arith, few)) (step n s line says.0 (omega (arith, few)) fit says.1) says.2)

-- ---- the whole script

spread_append : (xs ys : List (List ℕ)) → spread (xs ++ ys) ≡ spread xs + spread ys
spread_append [] ys = omega arith
spread_append (x ∷ xs) ys = omega (arith, spread_append xs ys)

holds : (content : ℕ) (i : TreeItem) → 268435456 ≤ content → IsWritten i → HoldsFew content i.body
holds content i le w = few content i.body le w.content
  where
    few : (content : ℕ) (b : Option BodySpec) → 268435456 ≤ content → HoldsFew 268435456 b → HoldsFew content b
    few content None le h = tt
    few content (Some body) le h = omega (arith, le, h)

eight_each : (items : Tree) → 8 * length items ≤ tree_size items
eight_each [] = omega arith
eight_each (i ∷ items) = omega (arith, sum_by-cons item_size i items, eight_each items)

fit_commit : (limits : Limits) (items : Tree) (subject body : List ℕ) → IsWide limits → IsTreeWithin limit items → IsText subject → IsText body → length subject + length body ≤ limit → IsFitCommit limits items subject body
fit_commit limits items subject body wide tree s b le =
    let brief : AreBrief limits items = record {
      few = omega (arith, eight_each items, tree.size, wide.paths);
      contents = All-weaker IsWritten (λ i. HoldsFew limits.content i.body) (λ i w. holds limits.content i wide.content w) items tree.each;
      size = tree.size;
    } in
    let typed : AreTyped items = record {
      names = All-weaker IsWritten (λ i. AreNames i.path) (λ i w. w.names) items tree.each;
      numbers = All-weaker IsWritten (λ i. HasWide i.meta) (λ i w. w.numbers) items tree.each;
    } in
    record {
      ordered = record {
        ascending = tree.ascending;
        few = All-weaker IsWritten (λ i. length i.path ≤ 64) (λ i w. w.orderly.few) items tree.each;
        short = All-weaker IsWritten (λ i. length (text_of i.path) ≤ 1024) (λ i w. w.orderly.short) items tree.each;
        modes = All-weaker IsWritten (λ i. FitsBody i.meta.mode i.body) (λ i w. w.orderly.mode) items tree.each;
      };
      brief = brief;
      makeable = makeable limits items typed (All-weaker IsWritten (λ i. HasText i.body) (λ i w. w.text) items tree.each) brief;
      subject_text = s;
      body_text = b;
      message = le;
      small = λ parent time short. small_root items parent subject body time short s b le;
    }

fit_command : (limits : Limits) → IsWide limits → (c : Command) → IsCommandFit c → IsFit limits c
fit_command limits wide Refs is = tt
fit_command limits wide Status is = tt
fit_command limits wide (RevParse rev) is = tt
fit_command limits wide (Log rev) is = tt
fit_command limits wide (Ls rev path) is = tt
fit_command limits wide (Cat rev path) is = tt
fit_command limits wide (Checkout rev name) is = tt
fit_command limits wide (Reset branch commit) is = tt
fit_command limits wide (DropRef branch) is = tt
fit_command limits wide (Prune depth) is = tt
fit_command limits wide Cleanup is = tt
fit_command limits wide (Commit branch tree subject body time) is = fit_commit limits tree.items subject body wide is.0 is.1 is.2 is.3

pub scripts_fit : (bytes : List ℕ) (lanes : List Commands) → IsScript bytes lanes → AreFit lanes
scripts_fit bytes lanes script =
    let total : spread script.lines + 1 ≡ length bytes + 1 = sym (spread_append script.lines ([] ∷ [])) ∙ ap spread (sym script.text) ∙ spread_pieces 10 bytes in
    let sections : AreSectionsFit script.trees lanes = walk 0 start script.lines (between script.trees lanes) (omega (arith, total, script.few)) tt script.says in
    record {
      few = sections.few;
      short = All-weaker IsLaneFit (λ lane. length lane ≤ 64) (λ lane l. l.few) lanes sections.each;
      each = λ limits wide. All-weaker IsLaneFit (λ lane. All (IsFit limits) lane) (λ lane l. All-weaker IsCommandFit (IsFit limits) (fit_command limits wide) lane l.each) lanes sections.each;
    }
