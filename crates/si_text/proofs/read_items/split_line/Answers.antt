use Rattle.std.proofs.Common.{arith, ap, sym, subst, ◌≤◌, length}
use Rattle.std.proofs.lemmas.List.Sums.{prefix_len-le-length}
use Rattle.si_text.proofs.LineFeeds.{is_other, split_alone, split_more}
use Rattle.si_text.proofs.read_items.split_line.Goals as goal

pub split_at-requires : goal.split_at-requires
split_at-requires c = (let most = prefix_len-le-length is_other c.args.bytes.now in let is = c.length_to_line_feed.ensures in omega (arith, most, is))

pub returns-in-empty-clause-lines : goal.returns-in-empty-clause-lines
returns-in-empty-clause-lines c =
    split_alone c.args.bytes.now c.split_at.result.0.now c.split_at.result.1.now c.length_to_line_feed.result c.requires c.length_to_line_feed.ensures c.split_at.ensures.front c.split_at.ensures.back c.in-empty.len_below

pub returns-in-len1-up-clause-lines : goal.returns-in-len1-up-clause-lines
returns-in-len1-up-clause-lines c =
    split_more c.args.bytes.now c.split_at.result.0.now c.split_at.result.1.now c.length_to_line_feed.result c.requires c.length_to_line_feed.ensures c.split_at.ensures.front c.split_at.ensures.back c.in-len1-up.len_at_least
