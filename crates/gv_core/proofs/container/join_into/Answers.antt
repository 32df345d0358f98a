use Rattle.std.proofs.Common.{◌≡◌, [], ◌++◌, map, sym, ap, ap₂, subst, ◌∙◌}
use Rattle.std.proofs.lemmas.List.{append-nil}
use Rattle.gv_core.specs.Kind.{tuple, entry, kind, basic, no_kinds}
use Rattle.gv_core.specs.Node.{seen, kinds_of}
use Rattle.gv_core.specs.Measure.{fixed, alignment}
use Rattle.gv_core.specs.Gives.{Puts}
use Rattle.gv_core.proofs.Nodes.{entry_alignment, entry_fixed}
use Rattle.gv_core.proofs.Raws.{join_tuple_is, join_entry_is, join_other}
use Rattle.gv_core.proofs.container.join_into.Goals as goal

pub join_members-requires-in-Entry-clause-align : goal.join_members-requires-in-Entry-clause-align
join_members-requires-in-Entry-clause-align c =
    let x = c.in-Entry.key in
    let k = c.deref-in-Entry.result.now in
    let pair : kinds_of (c.from_ref.result.now ++ c.from_ref-in-Entry.result.now) ≡ kind (basic x) (kind k no_kinds) =
    ap₂ (λ a b. kinds_of (a ++ b)) c.from_ref.ensures.value c.from_ref-in-Entry.ensures.value ∙ ap (λ b. kind b (kind k no_kinds)) c.basic-key.ensures in
    ap alignment (sym c.shape.ensures ∙ ap seen c.in-Entry.is ∙ ap (entry x) (sym c.deref-in-Entry.ensures)) ∙ entry_alignment x k ∙ ap (λ ks. alignment (tuple ks)) (sym pair)

pub join_members-requires-in-Entry-clause-size : goal.join_members-requires-in-Entry-clause-size
join_members-requires-in-Entry-clause-size c =
    let x = c.in-Entry.key in
    let k = c.deref-in-Entry.result.now in
    let pair : kinds_of (c.from_ref.result.now ++ c.from_ref-in-Entry.result.now) ≡ kind (basic x) (kind k no_kinds) =
    ap₂ (λ a b. kinds_of (a ++ b)) c.from_ref.ensures.value c.from_ref-in-Entry.ensures.value ∙ ap (λ b. kind b (kind k no_kinds)) c.basic-key.ensures in
    ap fixed (sym c.shape.ensures ∙ ap seen c.in-Entry.is ∙ ap (entry x) (sym c.deref-in-Entry.ensures)) ∙ entry_fixed x k ∙ ap (λ ks. fixed (tuple ks)) (sym pair)

pub returns-in-Tuple : goal.returns-in-Tuple
returns-in-Tuple c =
    let ks = c.deref-in-Tuple.result.now in
    let rs = map (λ b. b.now) c.args.members.now in
    subst (Puts c.args.out.now.items c.join_members.new.out.items c.join_members.result)
    (sym (join_tuple_is c.args.kind.now (kinds_of (ks ++ [])) rs (sym c.shape.ensures ∙ ap seen c.in-Tuple.is ∙ ap (λ x. tuple (kinds_of x)) (sym c.deref-in-Tuple.ensures.value ∙ sym (append-nil ks)))))
    c.join_members.ensures

pub returns-in-Entry : goal.returns-in-Entry
returns-in-Entry c =
    let x = c.in-Entry.key in
    let k = c.deref-in-Entry.result.now in
    let rs = map (λ b. b.now) c.args.members.now in
    let pair : kinds_of (c.from_ref.result.now ++ c.from_ref-in-Entry.result.now) ≡ kind (basic x) (kind k no_kinds) =
    ap₂ (λ a b. kinds_of (a ++ b)) c.from_ref.ensures.value c.from_ref-in-Entry.ensures.value ∙ ap (λ b. kind b (kind k no_kinds)) c.basic-key.ensures in
    subst (Puts c.args.out.now.items c.join_members-in-Entry.new.out.items c.join_members-in-Entry.result)
    (sym (join_entry_is c.args.kind.now x k _ rs (sym c.shape.ensures ∙ ap seen c.in-Entry.is ∙ ap (entry x) (sym c.deref-in-Entry.ensures)) pair)) c.join_members-in-Entry.ensures

pub returns-in_default : goal.returns-in_default
returns-in_default c = join_other c.shape.result.now c.args.kind.now _ c.shape.ensures c.in_default.not-Array c.in_default.not-Tuple c.in_default.not-Entry
