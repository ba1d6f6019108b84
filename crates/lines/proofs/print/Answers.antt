-- `print` meets its contract: the text is put only where it fits.
use Rattle.std.specs.Prelude.{Err}
use Rattle.std.proofs.Common.{◌≡◌, ◌∙◌, sym, rules}
use Rattle.words.specs.Kinds.{rows_of}
use Rattle.words.specs.Tables.{words_in}
use Rattle.lines.specs.Printing.{text_of}
use Rattle.lines.proofs.Sizes.{bytes_fit, unprinted, printed}
use Rattle.lines.proofs.print.Goals as goal

pub returns-in_err-bytes : goal.returns-in_err-bytes
returns-in_err-bytes c =
    let a = c.args in
    let gone : c.from_residual.result ≡ Err c.in_err-bytes.field-0.0 = search rules in
    record {
      answer = gone ∙ sym c.in_err-bytes.was ∙ c.text_size.ensures;
      text_left = unprinted (text_of (words_in a.table.now) (rows_of a.kinds.now a.numbers.now)) a.text.now c.text_size.ensures c.in_err-bytes.was;
    }

pub put_text-requires : goal.put_text-requires
put_text-requires c =
    let a = c.args in
    bytes_fit (text_of (words_in a.table.now) (rows_of a.kinds.now a.numbers.now)) a.text.now c.text_size.ensures c.in_ok-bytes.was

pub returns : goal.returns
returns c =
    let a = c.args in
    record {
      answer = sym c.in_ok-bytes.was ∙ c.text_size.ensures;
      text_left = printed (text_of (words_in a.table.now) (rows_of a.kinds.now a.numbers.now)) a.text.now c.text_size.ensures c.in_ok-bytes.was c.put_text.ensures;
    }
