pub mod Page
pub mod Form
pub mod Fields
pub mod RoundTrip
