-- What forms say of the spans of components: which have none, and that those of the others rise.
pub mod HasComponents
pub mod NoComponents
pub mod RisingSpans
pub mod SpanRows
pub mod Written
