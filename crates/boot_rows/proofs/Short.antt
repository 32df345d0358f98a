-- An entry has few bytes beside the words for the kernel.
use Rattle.std.proofs.Common.{◌≡◌, ℕ, ◌+◌, ◌-◌, ◌<◌, ◌≤◌, ◌++◌, ◌∷◌, [], Bool, true, false, List, length, codes, subst, arith}
use Rattle.std.specs.Fmt.{decimal}
use Rattle.std.proofs.lemmas.Fmt.{length-decimal-le}
use Rattle.std.proofs.lemmas.List.{length-append}
use Rattle.ost_types.specs.Csum.{hex_of}
use Rattle.ost_types.proofs.HexSums.{IsHexSum-hex_of}
use Rattle.boot_model.specs.declared.item.BootItem.{BootItem}
use Rattle.boot_model.specs.Entries.{entry_lines, entry_text, initrd_line, initrd_lines, kernel_text, linux_line, named_link, named_version, newline, options_line, spaced, title_line, version_line}
use Rattle.boot_model.specs.Items.{IsItem, link_number}
use Rattle.boot_rows.specs.Laws.{FewWordsAreShort}
use Rattle.boot_rows.specs.Written.{HasFewWords}
use Rattle.boot_rows.proofs.Placed.{few_links}

three : (a b c : List ℕ) → length (a ++ b ++ c) ≡ length a + length b + length c
three a b c = simp length-append

four : (a b c d : List ℕ) → length (a ++ b ++ c ++ d) ≡ length a + length b + length c + length d
four a b c d = simp length-append

five : (a b c d e : List ℕ) → length (a ++ b ++ c ++ d ++ e) ≡ length a + length b + length c + length d + length e
five a b c d e = simp length-append

six : (a b c d e f : List ℕ) → length (a ++ b ++ c ++ d ++ e ++ f) ≡ length a + length b + length c + length d + length e + length f
six a b c d e f = simp length-append

digit : (n : ℕ) → n < 10 → length (decimal n) ≤ 1
digit n less = length-decimal-le 1 n (omega arith) (omega (arith, less)) (omega (arith, less))

module _ (item : BootItem) (is : IsItem item) where
  abbrev os : List ℕ
  os = item.id.os

  abbrev kver : List ℕ
  kver = item.kernel.kver

  sum : length (hex_of item.kernel.bootcsum) ≡ 64
  sum = (IsHexSum-hex_of item.kernel.bootcsum is.bootcsum.whole is.bootcsum.bytes).whole

  title_short : (index : ℕ) → index < 10 → length (title_line os index) ≤ 100
  title_short index less = omega (arith, six (codes "title ") os (codes " (ostree:") (decimal index) (codes ")") newline, is.os.short, digit index less)

  version_short : (version : ℕ) → version < 10 → length (version_line version) ≤ 10
  version_short version less = omega (arith, three (codes "version ") (decimal version) newline, digit version less)

  link_short : (loader number : ℕ) → loader < 10 → number < 10 → length (named_link loader os item.kernel.bootcsum number) ≤ 150
  link_short loader number small less =
      let front = three (codes "/ostree/boot.") (decimal loader) (47 ∷ []) in
      omega (arith, four (named_version loader) os (47 ∷ hex_of item.kernel.bootcsum) (47 ∷ decimal number), front, is.os.short, sum, digit loader small, digit number less)

  options_short : (loader number : ℕ) → loader < 10 → number < 10 → length (options_line loader item number) ≤ length (spaced item.kargs) + 200
  options_short loader number small less =
      omega (arith, five (codes "options ") (spaced item.kargs) (codes "ostree=") (named_link loader os item.kernel.bootcsum number) newline, link_short loader number small less)

  kernel_short : length (kernel_text item) ≤ 150
  kernel_short = omega (arith, length-append (codes "/ostree/") (os ++ 45 ∷ hex_of item.kernel.bootcsum), length-append os (45 ∷ hex_of item.kernel.bootcsum), is.os.short, sum)

  linux_short : length (linux_line item) ≤ 450
  linux_short = omega (arith, five (codes "linux ") (kernel_text item) (codes "/vmlinuz-") kver newline, kernel_short, is.kver.short)

  initrd_line_short : length (initrd_line item) ≤ 450
  initrd_line_short = omega (arith, six (codes "initrd ") (kernel_text item) (codes "/initramfs-") kver (codes ".img") newline, kernel_short, is.kver.short)

  initrd_short : (there : Bool) → length (initrd_lines there item) ≤ 450
  initrd_short true = initrd_line_short
  initrd_short false = omega arith

  lines_short : (loader index version number : ℕ) → loader < 10 → index < 10 → version < 10 → number < 10 → length (entry_lines loader index version item number) ≤ length (spaced item.kargs) + 2048
  lines_short loader index version number small low below less =
      let t = title_line os index in
      let v = version_line version in
      let o = options_line loader item number in
      let i = initrd_lines item.kernel.initramfs item in
      omega (arith, five t v o (linux_line item) i, title_short index low, version_short version below, options_short loader number small less, linux_short, initrd_short item.kernel.initramfs)

pub few_words_short : FewWordsAreShort
unfolding entry_text
few_words_short loader items small are few i item at =
    let is : IsItem item = subst IsItem at.1 (are.each i item at.0) in
    let words : HasFewWords item = subst HasFewWords at.1 (few i item at.0) in
    let lines = lines_short item is loader i (length items - i) (link_number items i item) (omega (arith, small)) (omega (arith, at.0, are.few)) (omega (arith, are.few)) (omega (arith, few_links items i item are)) in
    omega (arith, lines, words)
