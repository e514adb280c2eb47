use Rattle.query_parser.proofs.Final.{final_reads, final_only, final_fault, same_verdict}
use Rattle.query_parser.proofs.reader.read_tokens.Goals as goal

pub returns : goal.returns
returns c =
    let same = same_verdict c.new-cursor.result c.args.tokens.items c.args.end c.new-cursor.ensures.tokens c.new-cursor.ensures.end in
    record {
      reads = final_reads c.new-cursor.result c.args.tokens.items c.args.end same c.read.result c.read.ensures;
      only = final_only c.new-cursor.result c.args.tokens.items c.args.end same c.read.result c.read.ensures;
      fault = final_fault c.new-cursor.result c.args.tokens.items c.args.end same c.read.result c.read.ensures;
    }
