use Rattle.sb_root.proofs.ViewPages.{view_written, bytes_written}
use Rattle.sb_root.proofs.view.View.put.Goals as goal

pub returns-clause-tables : goal.returns-clause-tables
returns-clause-tables c =
    (view_written c.args.self.now c.args.words.now _ _ _ _ _ _ _ c.requires.inside c.requires.different c.put_upper.ensures.root
    c.put_upper.ensures.pointers c.put_upper.ensures.directory c.put_upper.ensures.same
    c.low_entries.ensures c.put_page.ensures.page c.put_page.ensures.same c.in_order.ensures c.put_page-2.ensures.page
    c.put_page-2.ensures.size c.put_page-2.ensures.same c.clear_frame.ensures.written).tables

pub returns-clause-words : goal.returns-clause-words
returns-clause-words c =
    (view_written c.args.self.now c.args.words.now _ _ _ _ _ _ _ c.requires.inside c.requires.different c.put_upper.ensures.root
    c.put_upper.ensures.pointers c.put_upper.ensures.directory c.put_upper.ensures.same
    c.low_entries.ensures c.put_page.ensures.page c.put_page.ensures.same c.in_order.ensures c.put_page-2.ensures.page
    c.put_page-2.ensures.size c.put_page-2.ensures.same c.clear_frame.ensures.written).record_page

pub returns-clause-scratch : goal.returns-clause-scratch
returns-clause-scratch c =
    (view_written c.args.self.now c.args.words.now _ _ _ _ _ _ _ c.requires.inside c.requires.different c.put_upper.ensures.root
    c.put_upper.ensures.pointers c.put_upper.ensures.directory c.put_upper.ensures.same
    c.low_entries.ensures c.put_page.ensures.page c.put_page.ensures.same c.in_order.ensures c.put_page-2.ensures.page
    c.put_page-2.ensures.size c.put_page-2.ensures.same c.clear_frame.ensures.written).scratch

pub returns-clause-same : goal.returns-clause-same
returns-clause-same c =
    (view_written c.args.self.now c.args.words.now _ _ _ _ _ _ _ c.requires.inside c.requires.different c.put_upper.ensures.root
    c.put_upper.ensures.pointers c.put_upper.ensures.directory c.put_upper.ensures.same
    c.low_entries.ensures c.put_page.ensures.page c.put_page.ensures.same c.in_order.ensures c.put_page-2.ensures.page
    c.put_page-2.ensures.size c.put_page-2.ensures.same c.clear_frame.ensures.written).same

pub returns-clause-record_bytes : goal.returns-clause-record_bytes
returns-clause-record_bytes c =
    bytes_written c.args.self.now c.args.words.now _ _ _ c.requires.different c.in_order.ensures c.put_page-2.ensures.bytes
    c.clear_frame.ensures.written
