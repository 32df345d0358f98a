use Rattle.std.proofs.Common.{◌≡◌, [], ◌++◌, map, sym, ap, ap₂, ◌∙◌}
use Rattle.std.proofs.lemmas.List.{append-nil}
use Rattle.gv_core.specs.Kind.{array, tuple, entry, kind, basic, no_kinds}
use Rattle.gv_core.specs.Node.{seen, kinds_of}
use Rattle.gv_core.specs.Container.{raws}
use Rattle.gv_core.proofs.Steps.{gives_same}
use Rattle.gv_core.proofs.Raws.{cut_array_is, cut_tuple_is, cut_entry_is, cut_other}
use Rattle.gv_core.proofs.container.cut_at.Goals as goal

pub returns-in-Array : goal.returns-in-Array
returns-in-Array c =
    gives_same (λ v. raws (map (λ b. b.now) v.items)) c.cut_elements.result _ _
    (cut_array_is c.args.kind.now c.deref.result.now c.args.bytes.now (sym c.shape.ensures ∙ ap seen c.in-Array.is ∙ ap array (sym c.deref.ensures))) c.cut_elements.ensures

pub returns-in-Tuple : goal.returns-in-Tuple
returns-in-Tuple c =
    let ks = c.deref-in-Tuple.result.now in
    gives_same (λ v. raws (map (λ b. b.now) v.items)) c.cut_members.result _ _
    (cut_tuple_is c.args.kind.now (kinds_of (ks ++ [])) c.args.bytes.now (sym c.shape.ensures ∙ ap seen c.in-Tuple.is ∙ ap (λ x. tuple (kinds_of x)) (sym c.deref-in-Tuple.ensures.value ∙ sym (append-nil ks)))) c.cut_members.ensures

pub returns-in-Entry : goal.returns-in-Entry
returns-in-Entry c =
    let x = c.in-Entry.key in
    let k = c.deref-in-Entry.result.now in
    let pair : kinds_of (c.from_ref.result.now ++ c.from_ref-in-Entry.result.now) ≡ kind (basic x) (kind k no_kinds) =
    ap₂ (λ a b. kinds_of (a ++ b)) c.from_ref.ensures.value c.from_ref-in-Entry.ensures.value ∙ ap (λ b. kind b (kind k no_kinds)) c.basic-key.ensures in
    gives_same (λ v. raws (map (λ b. b.now) v.items)) c.cut_members-in-Entry.result _ _
    (cut_entry_is c.args.kind.now x k _ c.args.bytes.now (sym c.shape.ensures ∙ ap seen c.in-Entry.is ∙ ap (entry x) (sym c.deref-in-Entry.ensures)) pair) c.cut_members-in-Entry.ensures

pub returns-in_default : goal.returns-in_default
returns-in_default c = cut_other c.shape.result.now c.args.kind.now c.args.bytes.now c.shape.ensures c.in_default.not-Array c.in_default.not-Tuple c.in_default.not-Entry
