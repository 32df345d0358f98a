-- The entry of a member is a boot entry.
use Rattle.std.proofs.Common.{◌≡◌, ◌≢◌, ◌<◌, ◌≤◌, ◌-◌, ◌^◌, ℕ, Bool, true, false, List, [], ◌∷◌, ◌++◌, All, length, take, get_or, codes, Option, Some, None, IfSome, Result, Ok, Err, refl, sym, ◌∙◌, ap, subst, append_assoc, arith, min}
use Rattle.std.specs.Fmt.{decimal}
use Rattle.std.specs.List.{count_by, slice_index_or}
use Rattle.std.proofs.lemmas.List.{length-take}
use Rattle.std.proofs.lemmas.List.Sums.{count_by-le-length}
use Rattle.ost_types.specs.Csum.{hex_of}
use Rattle.ost_types.specs.Text.{IsText}
use Rattle.boot_model.specs.declared.item.BootItem.{BootItem}
use Rattle.boot_model.specs.Entries.{entry_lines, entry_text, initrd_lines, kernel_text, named_link, named_version, spaced}
use Rattle.boot_model.specs.Items.{AreItems, IsAt, IsItem, is_like, link_number}
use Rattle.boot_model.specs.Listing.{names_link}
use Rattle.bls_entry.specs.declared.entry.BlsEntry.{BlsEntry}
use Rattle.bls_entry.specs.declared.fault.BlsFault.{BlsFault}
use Rattle.bls_entry.specs.declared.fault.BlsFault.TheVariants.{NoMemory}
use Rattle.bls_entry.specs.Line.{BeginsPlain, file_text, is_blank}
use Rattle.bls_entry.specs.Entry.{CanBeWritten, MayStand}
use Rattle.bls_entry.specs.Entry as bls
use Rattle.bls_entry.specs.Options.{ostree_key, words_of}
use Rattle.bls_entry.specs.Reading.{Reads}
use Rattle.bls_entry.proofs.OneReading.{one_reading}
use Rattle.bls_entry.proofs.Written.{read_back}
use Rattle.deploy_list.specs.EntryReads.{EntriesAreRead, IsReadAs, ReadOnce}
use Rattle.deploy_list.proofs.Words.{IsPiece, IsShown, begins_front, begins_spaced, decimal_shown, hex_shown, kver_shown, one_ostree, parts_shown, piece_append, shown_append, shown_piece, shown_plain, spaced_piece, words_spaced, written, written_word}

abbrev initrd_of : Bool → BootItem → Option (List ℕ)
initrd_of true item = Some (kernel_text item ++ codes "/initramfs-" ++ item.kernel.kver ++ codes ".img")
initrd_of false item = None

-- what the entry says
abbrev entry_of : ℕ → ℕ → ℕ → BootItem → ℕ → BlsEntry
entry_of loader index version item number = record {
  title = item.id.os ++ (codes " (ostree:" ++ decimal index ++ codes ")");
  version = version;
  options = spaced item.kargs ++ (ostree_key ++ named_link loader item.id.os item.kernel.bootcsum number);
  linux = kernel_text item ++ codes "/vmlinuz-" ++ item.kernel.kver;
  initrd = initrd_of item.kernel.initramfs item;
}

-- the same bytes, as the lines of a list's member and as those of an entry
abbrev lines_text : (t o c i p n w v q s m l x k y e r : List ℕ) → List ℕ
lines_text t o c i p n w v q s m l x k y e r = t ++ ((o ++ (c ++ i ++ p)) ++ (n ++ (w ++ (v ++ (n ++ (q ++ ((s ++ (m ++ l)) ++ (n ++ (x ++ ((k ++ y ++ e) ++ (n ++ r)))))))))))

flat : (t o c i p n w v q s m l x k y e r : List ℕ) → t ++ o ++ c ++ i ++ p ++ n ++ (w ++ v ++ n) ++ (q ++ s ++ m ++ l ++ n) ++ (x ++ k ++ y ++ e ++ n) ++ r ≡ lines_text t o c i p n w v q s m l x k y e r
flat t o c i p n w v q s m l x k y e r = simp append_assoc

flat_initrd : (t k c e d n : List ℕ) → t ++ k ++ c ++ e ++ d ++ n ≡ t ++ ((k ++ c ++ e ++ d) ++ n)
flat_initrd t k c e d n = simp append_assoc

initrd_same : (there : Bool) (item : BootItem) → initrd_lines there item ≡ file_text (bls.initrd_lines (initrd_of there item))
unfolding file_text
initrd_same true item = flat_initrd (codes "initrd ") (kernel_text item) (codes "/initramfs-") item.kernel.kver (codes ".img") (10 ∷ [])
initrd_same false item = refl

module _ (loader index version : ℕ) (item : BootItem) (number : ℕ) where
  same_text : entry_lines loader index version item number ≡ bls.entry_text (entry_of loader index version item number)
  unfolding file_text
  same_text =
      let link = named_link loader item.id.os item.kernel.bootcsum number in
      let text = lines_text (codes "title ") item.id.os (codes " (ostree:") (decimal index) (codes ")") (10 ∷ []) (codes "version ") (decimal version) (codes "options ") (spaced item.kargs) (codes "ostree=") link (codes "linux ") (kernel_text item) (codes "/vmlinuz-") item.kernel.kver in
      flat (codes "title ") item.id.os (codes " (ostree:") (decimal index) (codes ")") (10 ∷ []) (codes "version ") (decimal version) (codes "options ") (spaced item.kargs) (codes "ostree=") link (codes "linux ") (kernel_text item) (codes "/vmlinuz-") item.kernel.kver (initrd_lines item.kernel.initramfs item)
      ∙ ap text (initrd_same item.kernel.initramfs item)

  module _ (is : IsItem item) (texts : All IsText item.kargs) (small : loader < 2) (index_small : index ≤ 8) (version_small : version ≤ 8) (number_small : number ≤ 8) where
    os_shown : All IsShown item.id.os
    os_shown = parts_shown item.id.os is.os.part.bytes

    sum_shown : All IsShown (hex_of item.kernel.bootcsum)
    sum_shown = hex_shown item.kernel.bootcsum is.bootcsum

    link_shown : All IsShown (named_link loader item.id.os item.kernel.bootcsum number)
    link_shown =
        let slash = written_word (47 ∷ []) refl in
        let number_part = shown_append (47 ∷ []) (decimal number) slash (decimal_shown number (omega (arith, number_small))) in
        let sum_part = shown_append (47 ∷ []) (hex_of item.kernel.bootcsum) slash sum_shown in
        let version_part = shown_append (codes "/ostree/boot.") (decimal loader) (written_word (codes "/ostree/boot.") refl) (decimal_shown loader (omega (arith, small))) in
        let front = shown_append (named_version loader) item.id.os (shown_append (codes "/ostree/boot." ++ decimal loader) (47 ∷ []) version_part slash) os_shown in
        shown_append (named_version loader ++ item.id.os ++ 47 ∷ hex_of item.kernel.bootcsum) (47 ∷ decimal number) (shown_append (named_version loader ++ item.id.os) (47 ∷ hex_of item.kernel.bootcsum) front sum_part) number_part

    kernel_shown : All IsShown (kernel_text item)
    kernel_shown = shown_append (codes "/ostree/") (item.id.os ++ 45 ∷ hex_of item.kernel.bootcsum) (written_word (codes "/ostree/") refl)
        (shown_append item.id.os (45 ∷ hex_of item.kernel.bootcsum) os_shown (shown_append (45 ∷ []) (hex_of item.kernel.bootcsum) (written_word (45 ∷ []) refl) sum_shown))

    version_shown : All IsShown item.kernel.kver
    version_shown = kver_shown item.kernel.kver is.kver.bytes

    linux_shown : All IsShown (kernel_text item ++ codes "/vmlinuz-" ++ item.kernel.kver)
    linux_shown = shown_append (kernel_text item ++ codes "/vmlinuz-") item.kernel.kver (shown_append (kernel_text item) (codes "/vmlinuz-") kernel_shown (written_word (codes "/vmlinuz-") refl)) version_shown

    ostree_shown : All IsShown (ostree_key ++ named_link loader item.id.os item.kernel.bootcsum number)
    ostree_shown = shown_append ostree_key (named_link loader item.id.os item.kernel.bootcsum number) (written_word ostree_key refl) link_shown

    title_may : MayStand (item.id.os ++ (codes " (ostree:" ++ decimal index ++ codes ")"))
    title_may =
        let back = piece_append (codes " (ostree:" ++ decimal index) (codes ")") (piece_append (codes " (ostree:") (decimal index) (written (codes " (ostree:") refl) (shown_piece (decimal index) (decimal_shown index (omega arith)))) (written (codes ")") refl) in
        let whole = piece_append item.id.os (codes " (ostree:" ++ decimal index ++ codes ")") (shown_piece item.id.os os_shown) back in
        record { text = whole.text; line = record { begins = begins_front item.id.os (codes " (ostree:" ++ decimal index ++ codes ")") is.os.part.not_empty (shown_plain item.id.os os_shown); one_line = whole.line } }

    options_may : MayStand (spaced item.kargs ++ (ostree_key ++ named_link loader item.id.os item.kernel.bootcsum number))
    options_may =
        let last = ostree_key ++ named_link loader item.id.os item.kernel.bootcsum number in
        let whole = piece_append (spaced item.kargs) last (spaced_piece item.kargs is.kargs texts) (shown_piece last ostree_shown) in
        record { text = whole.text; line = record { begins = begins_spaced item.kargs last is.kargs refl; one_line = whole.line } }

    linux_may : MayStand (kernel_text item ++ codes "/vmlinuz-" ++ item.kernel.kver)
    linux_may = let whole = shown_piece (kernel_text item ++ codes "/vmlinuz-" ++ item.kernel.kver) linux_shown in record { text = whole.text; line = record { begins = refl; one_line = whole.line } }

    initrd_may : (there : Bool) → IfSome (initrd_of there item) MayStand
    initrd_may false = tt
    initrd_may true =
        let front = shown_append (kernel_text item ++ codes "/initramfs-") item.kernel.kver (shown_append (kernel_text item) (codes "/initramfs-") kernel_shown (written_word (codes "/initramfs-") refl)) version_shown in
        let all = shown_append (kernel_text item ++ codes "/initramfs-" ++ item.kernel.kver) (codes ".img") front (written_word (codes ".img") refl) in
        let whole = shown_piece (kernel_text item ++ codes "/initramfs-" ++ item.kernel.kver ++ codes ".img") all in
        record { text = whole.text; line = record { begins = refl; one_line = whole.line } }

    can : CanBeWritten (entry_of loader index version item number)
    can = record {
      title = title_may;
      version = omega (arith, version_small);
      options = options_may;
      ostree = (named_link loader item.id.os item.kernel.bootcsum number, one_ostree item.kargs (named_link loader item.id.os item.kernel.bootcsum number) is.kargs (shown_plain (ostree_key ++ named_link loader item.id.os item.kernel.bootcsum number) ostree_shown));
      linux = linux_may;
      initrd = initrd_may item.kernel.initramfs;
    }

    read_as : IsReadAs (entry_lines loader index version item number) version (item.kargs ++ names_link loader item.id.os item.kernel.bootcsum number ∷ [])
    read_as = record {
      entry = entry_of loader index version item number;
      reads = subst (λ t. Reads t (Ok (entry_of loader index version item number))) (sym same_text) (read_back (entry_of loader index version item number) can);
      version_is = refl;
      words_are = words_spaced item.kargs (ostree_key ++ named_link loader item.id.os item.kernel.bootcsum number) is.kargs (λ e. let n : 111 ∷ (codes "stree=" ++ named_link loader item.id.os item.kernel.bootcsum number) ≡ [] = e in cc) (shown_plain (ostree_key ++ named_link loader item.id.os item.kernel.bootcsum number) ostree_shown);
    }

member_is : (items : List BootItem) (i : ℕ) (item : BootItem) → AreItems items → IsAt items i item → IsItem item
member_is items i item are at = subst IsItem at.1 (are.each i item at.0)

link_small : (items : List BootItem) (i : ℕ) (item : BootItem) → AreItems items → link_number items i item ≤ 8
link_small items i item are =
    let a = count_by-le-length (λ other. is_like item other) (take i items) in
    let b = length-take i items in
    omega (arith, a, b, are.few)

pub entries_read : EntriesAreRead
unfolding entry_text
entries_read loader items i item small are at texts =
    read_as loader i (length items - i) item (link_number items i item) (member_is items i item are at) texts small
    (omega (arith, at.0, are.few)) (omega (arith, are.few)) (link_small items i item are)

abbrev ok : BlsEntry → Result BlsEntry BlsFault
ok e = Ok e

abbrev memory : Result BlsEntry BlsFault
memory = Err NoMemory

told : (e : BlsEntry) → ok e ≢ memory
told e same = let n : ok e ≡ memory = same in cc

pub read_once : ReadOnce
read_once bytes v w vs ws a b =
    let both : ok a.entry ≡ ok b.entry = one_reading bytes (ok a.entry) (ok b.entry) a.reads b.reads (told a.entry) (told b.entry) in
    let same : a.entry ≡ b.entry = cc in
    (sym a.version_is ∙ ap (λ e. e.version) same ∙ b.version_is, sym a.words_are ∙ ap (λ e. words_of e.options) same ∙ b.words_are)
