use Rattle.std.proofs.Common.{Some, ◌∙◌, ap}
use Rattle.std.proofs.lemmas.Result.{IfOk-weaker}
use Rattle.script.proofs.Slices.{first_of}
use Rattle.script.proofs.Fields.{some_of, refs_from, status_from, rev_parse_from, log_from, ls_from, cat_from, checkout_from, reset_from, drop_from, prune_from, cleanup_from, commit_from, no_word}
use Rattle.script.proofs.words.read_written.Goals as goal

pub returns-in-Some-Refs : goal.returns-in-Some-Refs
returns-in-Some-Refs c =
    let word = some_of _ _ c.keyword_of.result _ c.keyword_of.ensures (c.in-Some-Refs.is ∙ ap Some c.in-Some-Refs.field-0-is) in
    refs_from _ _ _ (first_of (λ w. w.now) c.args.words.now _ c.in-len1-up.len_at_least) word _ c.read_refs.ensures

pub returns-in-Some-Status : goal.returns-in-Some-Status
returns-in-Some-Status c =
    let word = some_of _ _ c.keyword_of.result _ c.keyword_of.ensures (c.in-Some-Status.is ∙ ap Some c.in-Some-Status.field-0-is) in
    status_from _ _ _ (first_of (λ w. w.now) c.args.words.now _ c.in-len1-up.len_at_least) word _ c.read_status.ensures

pub returns-in-Some-RevParse : goal.returns-in-Some-RevParse
returns-in-Some-RevParse c =
    let word = some_of _ _ c.keyword_of.result _ c.keyword_of.ensures (c.in-Some-RevParse.is ∙ ap Some c.in-Some-RevParse.field-0-is) in
    IfOk-weaker _ _ _ (rev_parse_from _ _ _ (first_of (λ w. w.now) c.args.words.now _ c.in-len1-up.len_at_least) word) c.read_rev_parse.ensures

pub returns-in-Some-Log : goal.returns-in-Some-Log
returns-in-Some-Log c =
    let word = some_of _ _ c.keyword_of.result _ c.keyword_of.ensures (c.in-Some-Log.is ∙ ap Some c.in-Some-Log.field-0-is) in
    IfOk-weaker _ _ _ (log_from _ _ _ (first_of (λ w. w.now) c.args.words.now _ c.in-len1-up.len_at_least) word) c.read_log.ensures

pub returns-in-Some-Ls : goal.returns-in-Some-Ls
returns-in-Some-Ls c =
    let word = some_of _ _ c.keyword_of.result _ c.keyword_of.ensures (c.in-Some-Ls.is ∙ ap Some c.in-Some-Ls.field-0-is) in
    IfOk-weaker _ _ _ (ls_from _ _ _ (first_of (λ w. w.now) c.args.words.now _ c.in-len1-up.len_at_least) word) c.read_ls.ensures

pub returns-in-Some-Cat : goal.returns-in-Some-Cat
returns-in-Some-Cat c =
    let word = some_of _ _ c.keyword_of.result _ c.keyword_of.ensures (c.in-Some-Cat.is ∙ ap Some c.in-Some-Cat.field-0-is) in
    IfOk-weaker _ _ _ (cat_from _ _ _ (first_of (λ w. w.now) c.args.words.now _ c.in-len1-up.len_at_least) word) c.read_cat.ensures

pub returns-in-Some-Checkout : goal.returns-in-Some-Checkout
returns-in-Some-Checkout c =
    let word = some_of _ _ c.keyword_of.result _ c.keyword_of.ensures (c.in-Some-Checkout.is ∙ ap Some c.in-Some-Checkout.field-0-is) in
    IfOk-weaker _ _ _ (checkout_from _ _ _ (first_of (λ w. w.now) c.args.words.now _ c.in-len1-up.len_at_least) word) c.read_checkout.ensures

pub returns-in-Some-Reset : goal.returns-in-Some-Reset
returns-in-Some-Reset c =
    let word = some_of _ _ c.keyword_of.result _ c.keyword_of.ensures (c.in-Some-Reset.is ∙ ap Some c.in-Some-Reset.field-0-is) in
    IfOk-weaker _ _ _ (reset_from _ _ _ (first_of (λ w. w.now) c.args.words.now _ c.in-len1-up.len_at_least) word) c.read_reset.ensures

pub returns-in-Some-DropRef : goal.returns-in-Some-DropRef
returns-in-Some-DropRef c =
    let word = some_of _ _ c.keyword_of.result _ c.keyword_of.ensures (c.in-Some-DropRef.is ∙ ap Some c.in-Some-DropRef.field-0-is) in
    IfOk-weaker _ _ _ (drop_from _ _ _ (first_of (λ w. w.now) c.args.words.now _ c.in-len1-up.len_at_least) word) c.read_drop.ensures

pub returns-in-Some-Prune : goal.returns-in-Some-Prune
returns-in-Some-Prune c =
    let word = some_of _ _ c.keyword_of.result _ c.keyword_of.ensures (c.in-Some-Prune.is ∙ ap Some c.in-Some-Prune.field-0-is) in
    IfOk-weaker _ _ _ (prune_from _ _ _ (first_of (λ w. w.now) c.args.words.now _ c.in-len1-up.len_at_least) word) c.read_prune.ensures

pub returns-in-Some-Cleanup : goal.returns-in-Some-Cleanup
returns-in-Some-Cleanup c =
    let word = some_of _ _ c.keyword_of.result _ c.keyword_of.ensures (c.in-Some-Cleanup.is ∙ ap Some c.in-Some-Cleanup.field-0-is) in
    cleanup_from _ _ _ (first_of (λ w. w.now) c.args.words.now _ c.in-len1-up.len_at_least) word _ c.read_cleanup.ensures

pub returns-in-Some-Commit : goal.returns-in-Some-Commit
returns-in-Some-Commit c =
    let word = some_of _ _ c.keyword_of.result _ c.keyword_of.ensures (c.in-Some-Commit.is ∙ ap Some c.in-Some-Commit.field-0-is) in
    IfOk-weaker _ _ _ (commit_from _ _ _ (first_of (λ w. w.now) c.args.words.now _ c.in-len1-up.len_at_least) word) c.read_commit_words.ensures

pub returns-in-None : goal.returns-in-None
returns-in-None c = no_word _ _ _ (first_of (λ w. w.now) c.args.words.now _ c.in-len1-up.len_at_least) _ c.keyword_of.ensures c.in-None.is
