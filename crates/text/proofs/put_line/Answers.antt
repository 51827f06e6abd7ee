-- The word, the numbers and the line's end, one after the other.
use Rattle.text.proofs.PutLaws.{line-laid, line_word, line-numbers, line_end}
use Rattle.text.proofs.put_line.Goals as goal

pub put_word-numbers-requires : goal.put_word-numbers-requires
put_word-numbers-requires c = line_word c.args.buf.now c.args.at c.args.word.now c.args.ns.now c.requires

pub put_numbers-end-requires : goal.put_numbers-end-requires
put_numbers-end-requires c = line-numbers c.args.buf.now c.args.at c.args.word.now c.args.ns.now c.requires c.put_word-numbers.ensures

pub end_line-requires : goal.end_line-requires
end_line-requires c = line_end c.args.buf.now c.args.at c.args.word.now c.args.ns.now c.requires c.put_word-numbers.ensures c.put_numbers-end.ensures

pub returns : goal.returns
returns c = line-laid c.args.word.now c.args.ns.now c.put_word-numbers.ensures c.put_numbers-end.ensures c.end_line.ensures
