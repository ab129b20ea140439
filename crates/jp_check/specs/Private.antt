-- What is true of each checked query, and how the inspection of the components of a query finds the
-- first fault: what private contracts cite.
pub mod Calls
pub mod Checked
pub mod Inspection
